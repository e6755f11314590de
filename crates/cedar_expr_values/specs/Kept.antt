-- The members of a set and the fields of a record as the types keep them: as they were made, and canonical at every nesting.
-- Rule: values and equality (docs/RULES.md).
use Rattle.std.specs.Prelude.{◌≡◌, ℕ, ◌+◌, true}
use base.Stored.{coded_sub}
use Rattle.std.specs.Coded.{Coded, Coded-set, coded_bool}
use Rattle.cedar_expr_model.specs.Canonical.{is_canonical}
use Rattle.cedar_expr_model.specs.Made.{Made, made_prim, made_set, made_record, made_extension, Mades, no_mades, made, MadeFields, no_made_fields, made_field, bare}
use Rattle.cedar_expr_values.specs.Codes.{coded_mades, coded_made_fields}

-- the members of a set that is canonical
abbrev pub KeptSet : Type 0
KeptSet = (ms : Mades) × (is_canonical (bare (made_set ms)) ≡ true)

-- the fields of a record that is canonical
abbrev pub KeptRecord : Type 0
KeptRecord = (fs : MadeFields) × (is_canonical (bare (made_record fs)) ≡ true)

abbrev pub coded_kept_set : Coded KeptSet
coded_kept_set = coded_sub coded_mades (λ ms. is_canonical (bare (made_set ms)) ≡ true) (λ ms. Coded-set coded_bool (is_canonical (bare (made_set ms))) true)

abbrev pub coded_kept_record : Coded KeptRecord
coded_kept_record = coded_sub coded_made_fields (λ fs. is_canonical (bare (made_record fs)) ≡ true) (λ fs. Coded-set coded_bool (is_canonical (bare (made_record fs))) true)

-- how many values stand in it
abbrev mutual
  pub made_size : Made → ℕ
  made_size (made_prim p) = 0
  made_size (made_set ms) = mades_size ms + 1
  made_size (made_record fs) = made_fields_size fs + 1
  made_size (made_extension n k f ps) = 0

  pub mades_size : Mades → ℕ
  mades_size no_mades = 0
  mades_size (made m ms) = made_size m + mades_size ms

  pub made_fields_size : MadeFields → ℕ
  made_fields_size no_made_fields = 0
  made_fields_size (made_field a m fs) = made_size m + made_fields_size fs
