-- The meaning of an expression is what the function gives, and no other.
use Rattle.std.proofs.Common.{◌≡◌, ◌↔◌, true, false, [], ◌∷◌, sym, ◌∙◌}
use Rattle.std.specs.Prelude.{Option, Some}
use Rattle.cedar_expr_model.specs.Value.{V, prim, record_of, field, no_fields}
use Rattle.cedar_expr_model.specs.Tree.{Tree, lit, var, slot, unknown, choice, both, either, unary, binary, call, get_attr, has_attr, has_path, like, is_type, set_literal, record_literal, Trees, no_trees, tree, TreeFields, no_tree_fields, tree_field}
use Rattle.cedar_expr_model.specs.Canonical.{set_made}
use Rattle.cedar_store_model.specs.Outcome.{Res, val, Then, Is, Gives, bind}
use Rattle.cedar_store_model.specs.World.{World}
use Rattle.cedar_store_model.specs.Operators.{says, applied, like_pattern, of_type, called}
use Rattle.cedar_store_model.specs.Reads.{attribute_read, attribute_tested}
use Rattle.cedar_store_model.specs.Meaning.{Means, Mean, FieldsMean, Picks, picked, truth_asked, combined, variable, slot_value, outcome_of, outcomes_of, field_outcomes_of, path_tested}
use Rattle.cedar_store_model.proofs.Agree.{Agree, agree_is, agree_gives, agree_then, agree_picks}
use Rattle.cedar_store_model.proofs.Named.{bound_value}

-- a truth value is asked of what comes next
agree_truth : (means : Res V → Type 0) (o : Option (Res V)) → Agree means o → Agree (Then means (λ v. Is (truth_asked v))) (bind o (λ v. Some (truth_asked v)))
agree_truth means o h = agree_then means (λ v. Is (truth_asked v)) o (λ v. Some (truth_asked v)) h (λ v. agree_is (truth_asked v))

-- the meaning and the function agree
mutual
  pub agree : (w : World) (t : Tree) → Agree (Means w t) (outcome_of w t)
  agree w (lit p) = agree_is (val (prim p))
  agree w (var x) = agree_gives (variable w x)
  agree w (slot s) = agree_is (slot_value (w.slots s))
  agree w (unknown n a) = agree_gives (bound_value (w.unknowns n))
  agree w (choice t a b) =
      agree_then (Means w t) (Picks (Means w a) (Means w b)) (outcome_of w t) (picked (outcome_of w a) (outcome_of w b)) (agree w t)
      (agree_picks (Means w a) (Means w b) (outcome_of w a) (outcome_of w b) (agree w a) (agree w b))
  agree w (both a b) =
      agree_then (Means w a) (Picks (Then (Means w b) (λ v. Is (truth_asked v))) (Is (says false))) (outcome_of w a) (picked (bind (outcome_of w b) (λ v. Some (truth_asked v))) (Some (says false))) (agree w a)
      (agree_picks (Then (Means w b) (λ v. Is (truth_asked v))) (Is (says false)) (bind (outcome_of w b) (λ v. Some (truth_asked v))) (Some (says false)) (agree_truth (Means w b) (outcome_of w b) (agree w b)) (agree_is (says false)))
  agree w (either a b) =
      agree_then (Means w a) (Picks (Is (says true)) (Then (Means w b) (λ v. Is (truth_asked v)))) (outcome_of w a) (picked (Some (says true)) (bind (outcome_of w b) (λ v. Some (truth_asked v)))) (agree w a)
      (agree_picks (Is (says true)) (Then (Means w b) (λ v. Is (truth_asked v))) (Some (says true)) (bind (outcome_of w b) (λ v. Some (truth_asked v))) (agree_is (says true)) (agree_truth (Means w b) (outcome_of w b) (agree w b)))
  agree w (unary o a) = agree_then (Means w a) (λ v. Is (applied o v)) (outcome_of w a) (λ v. Some (applied o v)) (agree w a) (λ v. agree_is (applied o v))
  agree w (binary o a b) =
      let right = agree w b in
      agree_then (Means w a) (λ v. Then (Means w b) (λ v'. Gives (combined w o v v'))) (outcome_of w a) (λ v. bind (outcome_of w b) (combined w o v)) (agree w a)
      (λ v. agree_then (Means w b) (λ v'. Gives (combined w o v v')) (outcome_of w b) (combined w o v) right (λ v'. agree_gives (combined w o v v')))
  agree w (call f ts) = agree_then (Mean w ts) (λ vs. Gives (called w.table w.unknowns f vs)) (outcomes_of w ts) (called w.table w.unknowns f) (agree_all w ts) (λ vs. agree_gives (called w.table w.unknowns f vs))
  agree w (get_attr t a) = agree_then (Means w t) (λ v. Gives (attribute_read w a v)) (outcome_of w t) (attribute_read w a) (agree w t) (λ v. agree_gives (attribute_read w a v))
  agree w (has_attr t a) = agree_then (Means w t) (λ v. Gives (attribute_tested w a v)) (outcome_of w t) (attribute_tested w a) (agree w t) (λ v. agree_gives (attribute_tested w a v))
  agree w (has_path t a bs) = agree_then (Means w t) (λ v. Gives (path_tested w a bs v)) (outcome_of w t) (path_tested w a bs) (agree w t) (λ v. agree_gives (path_tested w a bs v))
  agree w (like t p) = agree_then (Means w t) (λ v. Is (like_pattern p v)) (outcome_of w t) (λ v. Some (like_pattern p v)) (agree w t) (λ v. agree_is (like_pattern p v))
  agree w (is_type t n) = agree_then (Means w t) (λ v. Is (of_type n v)) (outcome_of w t) (λ v. Some (of_type n v)) (agree w t) (λ v. agree_is (of_type n v))
  agree w (set_literal ts) = agree_then (Mean w ts) (λ vs. Is (val (set_made vs))) (outcomes_of w ts) (λ vs. Some (val (set_made vs))) (agree_all w ts) (λ vs. agree_is (val (set_made vs)))
  agree w (record_literal fs) = agree_then (FieldsMean w fs) (λ vs. Is (val (record_of vs))) (field_outcomes_of w fs) (λ vs. Some (val (record_of vs))) (agree_fields w fs) (λ vs. agree_is (val (record_of vs)))

  pub agree_all : (w : World) (ts : Trees) → Agree (Mean w ts) (outcomes_of w ts)
  agree_all w no_trees = agree_is (val [])
  agree_all w (tree t ts) =
      let rest = agree_all w ts in
      agree_then (Means w t) (λ v. Then (Mean w ts) (λ vs. Is (val (v ∷ vs)))) (outcome_of w t) (λ v. bind (outcomes_of w ts) (λ vs. Some (val (v ∷ vs)))) (agree w t)
      (λ v. agree_then (Mean w ts) (λ vs. Is (val (v ∷ vs))) (outcomes_of w ts) (λ vs. Some (val (v ∷ vs))) rest (λ vs. agree_is (val (v ∷ vs))))

  pub agree_fields : (w : World) (fs : TreeFields) → Agree (FieldsMean w fs) (field_outcomes_of w fs)
  agree_fields w no_tree_fields = agree_is (val no_fields)
  agree_fields w (tree_field a t fs) =
      let rest = agree_fields w fs in
      agree_then (Means w t) (λ v. Then (FieldsMean w fs) (λ vs. Is (val (field a v vs)))) (outcome_of w t) (λ v. bind (field_outcomes_of w fs) (λ vs. Some (val (field a v vs)))) (agree w t)
      (λ v. agree_then (FieldsMean w fs) (λ vs. Is (val (field a v vs))) (field_outcomes_of w fs) (λ vs. Some (val (field a v vs))) rest (λ vs. agree_is (val (field a v vs))))

pub means_outcome : (w : World) (t : Tree) (r : Res V) → Means w t r → outcome_of w t ≡ Some r
means_outcome w t r h = (agree w t).only r h

pub outcome_means : (w : World) (t : Tree) (r : Res V) → outcome_of w t ≡ Some r → Means w t r
outcome_means w t r e = (agree w t).gives r e

pub meaning_is_a_function : (w : World) (t : Tree) (r : Res V) → Means w t r ↔ (outcome_of w t ≡ Some r)
meaning_is_a_function w t r = (means_outcome w t r, outcome_means w t r)

pub one_outcome : (w : World) (t : Tree) (r s : Res V) → Means w t r → Means w t s → r ≡ s
one_outcome w t r s h k = let p = sym (means_outcome w t r h) ∙ means_outcome w t s k in cc
