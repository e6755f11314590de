-- Written values are restricted.
use Rattle.std.proofs.Common.{◌≡◌, List, [], ◌∷◌, map, None, refl}
use Rattle.cedar_expr_model.specs.Lists.{first_found}
use Rattle.cedar_expr_model.specs.Value.{Literal}
use Rattle.cedar_expr_model.specs.Tree.{lit}
use Rattle.cedar_expr_model.specs.Builder.{trees}
use Rattle.cedar_expr_model.specs.Parts.{subexpressions, subexpressions_among, subexpressions_in_fields}
use Rattle.cedar_expr_model.specs.Made.{Made, made_prim, made_set, made_record, made_extension, Mades, no_mades, made, MadeFields, no_made_fields, made_field, written, writtens, written_fields}
use Rattle.cedar_expr_model.specs.Restricted.{feature_here, offence}
use Rattle.cedar_expr_model.proofs.Gathering.{found_none_join}

literals_restricted : (ps : List Literal) → first_found feature_here (subexpressions_among (trees (map lit ps))) ≡ None
literals_restricted [] = refl
literals_restricted (p ∷ ps) = literals_restricted ps

mutual
  pub written_restricted : (m : Made) → offence (written m) ≡ None
  written_restricted (made_prim p) = refl
  written_restricted (made_set ms) = writtens_restricted ms
  written_restricted (made_record fs) = written_fields_restricted fs
  written_restricted (made_extension n k f ps) = literals_restricted ps

  writtens_restricted : (ms : Mades) → first_found feature_here (subexpressions_among (writtens ms)) ≡ None
  writtens_restricted no_mades = refl
  writtens_restricted (made m ms) = found_none_join feature_here (subexpressions (written m)) (subexpressions_among (writtens ms)) (written_restricted m) (writtens_restricted ms)

  written_fields_restricted : (fs : MadeFields) → first_found feature_here (subexpressions_in_fields (written_fields fs)) ≡ None
  written_fields_restricted no_made_fields = refl
  written_fields_restricted (made_field a m fs) = found_none_join feature_here (subexpressions (written m)) (subexpressions_in_fields (written_fields fs)) (written_restricted m) (written_fields_restricted fs)
