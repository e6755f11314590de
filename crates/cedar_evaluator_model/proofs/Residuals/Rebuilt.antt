-- An expression rebuilt with other expressions in place of its unknowns and slots, in a world with other slots: what relates each of these
-- to what stands there relates the whole.
use Rattle.std.proofs.Common.{◌≡◌, true, false, List, [], ◌∷◌, sym, subst}
use Rattle.std.specs.Prelude.{Option, Some}
use Rattle.cedar_expr_model.specs.Name.{Text}
use Rattle.cedar_expr_model.specs.Uid.{Uid}
use Rattle.cedar_expr_model.specs.Value.{truth, V, prim, record_of, Fields, no_fields, field}
use Rattle.cedar_expr_model.specs.Canonical.{set_made}
use Rattle.cedar_expr_model.specs.Builder.{Builder, trees, tree_fields, tree_builder, built, built_list, built_fields}
use Rattle.cedar_expr_model.specs.Tree.{CoreType, SlotId, Tree, lit, var, slot, unknown, choice, both, either, unary, binary, call, get_attr, has_attr, has_path, like, is_type, set_literal, record_literal, Trees, no_trees, tree, TreeFields, no_tree_fields, tree_field}
use Rattle.cedar_expr_model.proofs.Gathering.{EachIn, EachAmong, EachInFields}
use Rattle.cedar_store_model.specs.Outcome.{Res, val, bind}
use Rattle.cedar_store_model.specs.World.{World}
use Rattle.cedar_store_model.specs.Operators.{says, applied, like_pattern, of_type, called}
use Rattle.cedar_store_model.proofs.Named.{bound_value}
use Rattle.cedar_store_model.specs.Reads.{attribute_read, attribute_tested}
use Rattle.cedar_store_model.specs.Meaning.{variable, combined, picked, slot_value, truth_asked, outcome_of, outcomes_of, field_outcomes_of, path_tested}
use Rattle.cedar_store_model.proofs.Built.{conjunction_outcome, disjunction_outcome}
use Rattle.cedar_evaluator_model.proofs.SameReads.{same_variable, same_read, same_tested, same_path, same_combined}
use Rattle.cedar_evaluator_model.proofs.Residuals.Reads.{path_same, path_fits}
use Rattle.cedar_evaluator_model.proofs.Residuals.Stands.{each_conjunction, each_disjunction}

-- the builder of trees with these expressions in place of unknowns and slots
abbrev pub rebuilder : (SlotId → Tree) → (Text → Option CoreType → Tree) → Builder Tree
rebuilder f g = record tree_builder { of_slot = f; of_unknown = g }

-- `R` relates each outcome to itself, and what follows related outcomes where it is related.
module _ (R : (A : Type 0) → Option (Res A) → Option (Res A) → Type 0) (same : (A : Type 0) (o : Option (Res A)) → R A o o)
    (next : (A B : Type 0) (o p : Option (Res A)) (f g : A → Option (Res B)) → R A o p → ((v : A) → R B (f v) (g v)) → R B (bind o f) (bind p g)) where
  picked_related : (a b c d : Option (Res V)) → R V a b → R V c d → (v : V) → R V (picked a c v) (picked b d v)
  picked_related a b c d h k (prim (truth true)) = h
  picked_related a b c d h k (prim (truth false)) = k
  picked_related a b c d h k v = same V (picked a c v)

  asked_related : (o p : Option (Res V)) → R V o p → R V (bind o (λ v. Some (truth_asked v))) (bind p (λ v. Some (truth_asked v)))
  asked_related o p h = next V V o p (λ v. Some (truth_asked v)) (λ v. Some (truth_asked v)) h (λ v. same V (Some (truth_asked v)))

  related_by : (o p : Option (Res V)) → p ≡ o → R V o p
  related_by o p e = subst (R V o) (sym e) (same V o)

  module _ (w : World) (y : SlotId → Option Uid) (f : SlotId → Tree) (g : Text → Option CoreType → Tree)
      (slots : (x : SlotId) → R V (Some (slot_value (w.slots x))) (outcome_of (record w { slots = y }) (f x)))
      (unknowns : (n : Text) (a : Option CoreType) → R V (bound_value (w.unknowns n)) (outcome_of (record w { slots = y }) (g n a))) where
    mutual
      pub rebuilt : (t : Tree) → R V (outcome_of w t) (outcome_of (record w { slots = y }) (built (rebuilder f g) t))
      rebuilt (lit p) = same V (Some (val (prim p)))
      rebuilt (var x) = related_by (variable w x) (variable (record w { slots = y }) x) (same_variable w y w.unknowns x)
      rebuilt (slot x) = slots x
      rebuilt (unknown n a) = unknowns n a
      rebuilt (choice t a b) = next V V (outcome_of w t) _ _ _ (rebuilt t) (picked_related (outcome_of w a) _ (outcome_of w b) _ (rebuilt a) (rebuilt b))
      rebuilt (both a b) =
          subst (R V (outcome_of w (both a b))) (sym (conjunction_outcome (record w { slots = y }) (built (rebuilder f g) a) (built (rebuilder f g) b)))
          (next V V (outcome_of w a) _ _ _ (rebuilt a) (picked_related _ _ (Some (says false)) (Some (says false)) (asked_related (outcome_of w b) _ (rebuilt b)) (same V (Some (says false)))))
      rebuilt (either a b) =
          subst (R V (outcome_of w (either a b))) (sym (disjunction_outcome (record w { slots = y }) (built (rebuilder f g) a) (built (rebuilder f g) b)))
          (next V V (outcome_of w a) _ _ _ (rebuilt a) (picked_related (Some (says true)) (Some (says true)) _ _ (same V (Some (says true))) (asked_related (outcome_of w b) _ (rebuilt b))))
      rebuilt (unary o a) = next V V (outcome_of w a) _ (λ v. Some (applied o v)) (λ v. Some (applied o v)) (rebuilt a) (λ v. same V (Some (applied o v)))
      rebuilt (binary o a b) =
          let right = rebuilt b in
          next V V (outcome_of w a) _ _ _ (rebuilt a)
          (λ v. next V V (outcome_of w b) _ _ _ right (λ x. related_by (combined w o v x) (combined (record w { slots = y }) o v x) (same_combined w y w.unknowns o v x)))
      rebuilt (call h ts) = next (List V) V (outcomes_of w ts) _ (called w.table w.unknowns h) (called w.table w.unknowns h) (all_rebuilt ts) (λ vs. same V (called w.table w.unknowns h vs))
      rebuilt (get_attr t a) = next V V (outcome_of w t) _ _ _ (rebuilt t) (λ v. related_by (attribute_read w a v) _ (same_read w y w.unknowns a v))
      rebuilt (has_attr t a) = next V V (outcome_of w t) _ _ _ (rebuilt t) (λ v. related_by (attribute_tested w a v) _ (same_tested w y w.unknowns a v))
      rebuilt (has_path t a bs) =
          subst (R V (outcome_of w (has_path t a bs))) (sym (path_same (record w { slots = y }) (built (rebuilder f g) t) a bs))
          (next V V (outcome_of w t) _ _ _ (rebuilt t) (λ v. related_by (path_tested w a bs v) _ (same_path w y w.unknowns a bs v)))
      rebuilt (like t p) = next V V (outcome_of w t) _ (λ v. Some (like_pattern p v)) (λ v. Some (like_pattern p v)) (rebuilt t) (λ v. same V (Some (like_pattern p v)))
      rebuilt (is_type t n) = next V V (outcome_of w t) _ (λ v. Some (of_type n v)) (λ v. Some (of_type n v)) (rebuilt t) (λ v. same V (Some (of_type n v)))
      rebuilt (set_literal ts) = next (List V) V (outcomes_of w ts) _ (λ vs. Some (val (set_made vs))) (λ vs. Some (val (set_made vs))) (all_rebuilt ts) (λ vs. same V (Some (val (set_made vs))))
      rebuilt (record_literal fs) =
          next Fields V (field_outcomes_of w fs) _ (λ vs. Some (val (record_of vs))) (λ vs. Some (val (record_of vs))) (fields_rebuilt fs) (λ vs. same V (Some (val (record_of vs))))

      all_rebuilt : (ts : Trees) → R (List V) (outcomes_of w ts) (outcomes_of (record w { slots = y }) (trees (built_list (rebuilder f g) ts)))
      all_rebuilt no_trees = same (List V) (Some (val []))
      all_rebuilt (tree t ts) =
          let rest = all_rebuilt ts in
          next V (List V) (outcome_of w t) _ _ _ (rebuilt t)
          (λ v. next (List V) (List V) (outcomes_of w ts) _ (λ vs. Some (val (v ∷ vs))) (λ vs. Some (val (v ∷ vs))) rest (λ vs. same (List V) (Some (val (v ∷ vs)))))

      fields_rebuilt : (fs : TreeFields) → R Fields (field_outcomes_of w fs) (field_outcomes_of (record w { slots = y }) (tree_fields (built_fields (rebuilder f g) fs)))
      fields_rebuilt no_tree_fields = same Fields (Some (val no_fields))
      fields_rebuilt (tree_field a t fs) =
          let rest = fields_rebuilt fs in
          next V Fields (outcome_of w t) _ _ _ (rebuilt t)
          (λ v. next Fields Fields (field_outcomes_of w fs) _ (λ vs. Some (val (field a v vs))) (λ vs. Some (val (field a v vs))) rest (λ vs. same Fields (Some (val (field a v vs)))))

-- what holds of the unknowns of an expression, and of those of what stands in their place, holds of the unknowns of the rebuilt one
module _ (P : Text → Option CoreType → Type 0) (f : SlotId → Tree) (g : Text → Option CoreType → Tree) (slots : (x : SlotId) → EachIn P (f x))
    (unknowns : (n : Text) (a : Option CoreType) → P n a → EachIn P (g n a)) where
  mutual
    pub each_rebuilt : (t : Tree) → EachIn P t → EachIn P (built (rebuilder f g) t)
    each_rebuilt (lit p) h = tt
    each_rebuilt (var x) h = tt
    each_rebuilt (slot x) h = slots x
    each_rebuilt (unknown n a) h = unknowns n a h
    each_rebuilt (choice t a b) h = (each_rebuilt t h.0, each_rebuilt a h.1, each_rebuilt b h.2)
    each_rebuilt (both a b) h = each_conjunction P _ _ (each_rebuilt a h.0) (each_rebuilt b h.1)
    each_rebuilt (either a b) h = each_disjunction P _ _ (each_rebuilt a h.0) (each_rebuilt b h.1)
    each_rebuilt (unary o a) h = each_rebuilt a h
    each_rebuilt (binary o a b) h = (each_rebuilt a h.0, each_rebuilt b h.1)
    each_rebuilt (call k ts) h = each_among_rebuilt ts h
    each_rebuilt (get_attr t a) h = each_rebuilt t h
    each_rebuilt (has_attr t a) h = each_rebuilt t h
    each_rebuilt (has_path t a bs) h = path_fits P _ a bs (each_rebuilt t h)
    each_rebuilt (like t p) h = each_rebuilt t h
    each_rebuilt (is_type t n) h = each_rebuilt t h
    each_rebuilt (set_literal ts) h = each_among_rebuilt ts h
    each_rebuilt (record_literal fs) h = each_field_rebuilt fs h

    each_among_rebuilt : (ts : Trees) → EachAmong P ts → EachAmong P (trees (built_list (rebuilder f g) ts))
    each_among_rebuilt no_trees h = tt
    each_among_rebuilt (tree t ts) h = (each_rebuilt t h.0, each_among_rebuilt ts h.1)

    each_field_rebuilt : (fs : TreeFields) → EachInFields P fs → EachInFields P (tree_fields (built_fields (rebuilder f g) fs))
    each_field_rebuilt no_tree_fields h = tt
    each_field_rebuilt (tree_field a t fs) h = (each_rebuilt t h.0, each_field_rebuilt fs h.1)
