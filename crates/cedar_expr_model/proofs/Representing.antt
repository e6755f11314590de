-- Represented values show their types, and their calls are right.
use Rattle.std.proofs.Common.{◌≡◌, suc, true, List, [], ◌∷◌, map, length, refl, ap, ◌∙◌, subst}
use Rattle.std.specs.Prelude.{option_and_then}
use Rattle.std.specs.List.{list_all}
use Rattle.cedar_expr_model.specs.Value.{Literal, prim}
use Rattle.cedar_expr_model.specs.Tree.{lit}
use Rattle.cedar_expr_model.specs.Builder.{trees}
use Rattle.cedar_expr_model.specs.Parts.{subexpressions, subexpressions_among, subexpressions_in_fields, listed}
use Rattle.cedar_expr_model.specs.Made.{Made, made_prim, made_set, made_record, made_extension, Mades, no_mades, made, MadeFields, no_made_fields, made_field, written, writtens, written_fields}
use Rattle.cedar_expr_model.specs.Table.{Table, Signature, takes_count}
use Rattle.cedar_expr_model.specs.OfLaws.Fair.{IsAnswer, IsFair}
use Rattle.cedar_expr_model.specs.Evident.{is_valid_call, has_valid_calls}
use Rattle.cedar_expr_model.specs.TreeLaws.{HasResult}
use Rattle.cedar_expr_model.specs.OfLaws.Represented.{IsRepresented, AreMade, HaveMade}
use Rattle.cedar_expr_model.proofs.Lists.{hold_both}
use Rattle.cedar_expr_model.proofs.Gathering.{all_join}

pub represented_result : (x : Table) (m : Made) → IsFair x → IsRepresented x m → HasResult x m
represented_result x (made_prim p) h r = tt
represented_result x (made_set ms) h r = tt
represented_result x (made_record fs) h r = tt
represented_result x (made_extension n k f ps) h r =
    let c = r.0 in
    ap (option_and_then (λ (s : Signature). s.result)) c.1 ∙ subst (IsAnswer c.0) r.1 (h f c.0 (map prim ps) c.1 c.2 c.3)

-- as many literals as values
same_count : (ps : List Literal) → length (listed (trees (map lit ps))) ≡ length (map prim ps)
same_count [] = refl
same_count (p ∷ ps) = ap suc (same_count ps)

literals_valid : (x : Table) (ps : List Literal) → list_all (is_valid_call x) (subexpressions_among (trees (map lit ps))) ≡ true
literals_valid x [] = refl
literals_valid x (p ∷ ps) = literals_valid x ps

mutual
  pub represented_valid : (x : Table) (m : Made) → IsRepresented x m → has_valid_calls x (written m) ≡ true
  represented_valid x (made_prim p) r = refl
  represented_valid x (made_set ms) r = are_valid x ms r.0
  represented_valid x (made_record fs) r = have_valid x fs r
  represented_valid x (made_extension n k f ps) r =
      let c = r.0 in
      let e = ap (takes_count c.0) (same_count ps) ∙ c.2 in
      hold_both _ _ (rw c.1 e) (literals_valid x ps)

  are_valid : (x : Table) (ms : Mades) → AreMade (λ vs. Unit {0}) x ms → list_all (is_valid_call x) (subexpressions_among (writtens ms)) ≡ true
  are_valid x no_mades r = refl
  are_valid x (made m ms) r = all_join (is_valid_call x) (subexpressions (written m)) (subexpressions_among (writtens ms)) (represented_valid x m r.0) (are_valid x ms r.1)

  have_valid : (x : Table) (fs : MadeFields) → HaveMade (λ vs. Unit {0}) x fs → list_all (is_valid_call x) (subexpressions_in_fields (written_fields fs)) ≡ true
  have_valid x no_made_fields r = refl
  have_valid x (made_field a m fs) r = all_join (is_valid_call x) (subexpressions (written m)) (subexpressions_in_fields (written_fields fs)) (represented_valid x m r.0) (have_valid x fs r.1)
