-- A written value is the value that its expression is, where it holds no extension value.
use Rattle.std.proofs.Common.{◌≡◌, true, ◌∷◌, Some, refl, ap, ◌∙◌}
use Rattle.std.specs.Prelude.{option_map, option_and_then}
use Rattle.cedar_expr_model.specs.Value.{set_of, record_of, Vs, field, values_list}
use Rattle.cedar_expr_model.specs.Canonical.{is_canonical, are_canonical, have_canonical, are_rising, set_made}
use Rattle.cedar_expr_model.specs.Made.{Made, made_prim, made_set, made_record, made_extension, Mades, no_mades, made, MadeFields, no_made_fields, made_field, bare, bares, bare_fields, written, writtens, written_fields}
use Rattle.cedar_expr_model.specs.ValueParts.{value_of_tree, values_of_trees, fields_of_trees}
use Rattle.cedar_expr_model.specs.TreeLaws.{is_plain, are_plain, have_plain}
use Rattle.cedar_expr_model.proofs.Lists.{both_hold}
use Rattle.cedar_expr_model.proofs.Sets.{made_of_rising}
use Rattle.cedar_expr_model.proofs.Sameness.{field_parts}

mutual
  pub written_is_value : (m : Made) → is_plain m ≡ true → is_canonical (bare m) ≡ true → value_of_tree (written m) ≡ Some (bare m)
  written_is_value (made_prim p) h k = refl
  written_is_value (made_set ms) h k = let p = both_hold (are_rising (bares ms)) (are_canonical (bares ms)) k in ap (option_map set_made) (writtens_are_values ms h p.1) ∙ ap (λ (x : Vs). Some (set_of x)) (made_of_rising (bares ms) p.0)
  written_is_value (made_record fs) h k = ap (option_map record_of) (written_fields_are_values fs h k)
  written_is_value (made_extension n key f ps) h k = cc

  writtens_are_values : (ms : Mades) → are_plain ms ≡ true → are_canonical (bares ms) ≡ true → values_of_trees (writtens ms) ≡ Some (values_list (bares ms))
  writtens_are_values no_mades h k = refl
  writtens_are_values (made m ms) h k =
      let p = both_hold (is_plain m) (are_plain ms) h in
      let q = both_hold (is_canonical (bare m)) (are_canonical (bares ms)) k in
      λ i. option_and_then (λ v. option_map (λ vs. v ∷ vs) (writtens_are_values ms p.1 q.1 i)) (written_is_value m p.0 q.0 i)

  written_fields_are_values : (fs : MadeFields) → have_plain fs ≡ true → have_canonical (bare_fields fs) ≡ true → fields_of_trees (written_fields fs) ≡ Some (bare_fields fs)
  written_fields_are_values no_made_fields h k = refl
  written_fields_are_values (made_field a m fs) h k =
      let p = both_hold (is_plain m) (have_plain fs) h in
      let q = field_parts a (bare m) (bare_fields fs) k in
      λ i. option_and_then (λ v. option_map (field a v) (written_fields_are_values fs p.1 q.2 i)) (written_is_value m p.0 q.0 i)
