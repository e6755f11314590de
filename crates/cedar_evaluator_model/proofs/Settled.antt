-- Where everything but the unknowns is known, an expression whose unknowns have values has an outcome.
use Rattle.std.proofs.Common.{◌≡◌, Bool, true, false, cond, List, ◌∷◌, refl, subst}
use Rattle.std.specs.Prelude.{Option, Some, None, length, IsSome, unwrap_or}
use Rattle.cedar_expr_model.specs.Name.{Text, Name}
use Rattle.cedar_expr_model.specs.Uid.{Uid}
use Rattle.cedar_expr_model.specs.Value.{V, record_of, field, truth_value}
use Rattle.cedar_expr_model.specs.Canonical.{set_made}
use Rattle.cedar_expr_model.specs.Tree.{CoreType, Tree, lit, var, slot, unknown, choice, both, either, unary, binary, call, get_attr, has_attr, has_path, like, is_type, set_literal, record_literal, Trees, no_trees, tree, TreeFields, no_tree_fields, tree_field}
use Rattle.cedar_expr_model.specs.Unknowns.{EachUnknown}
use Rattle.cedar_expr_model.specs.Table.{Signature, Called, gives, fails, leaves, signature_of, takes_count, are_of_types}
use Rattle.cedar_expr_model.specs.OfLaws.Fair.{IsTaken}
use Rattle.cedar_expr_model.proofs.Gathering.{EachIn, each_in, EachAmong, EachInFields}
use Rattle.cedar_store_model.specs.Outcome.{Res, val, err, bind, wrong_type, wrong_count}
use Rattle.cedar_store_model.specs.World.{World}
use Rattle.cedar_store_model.specs.Operators.{says, applied, like_pattern, of_type, answered}
use Rattle.cedar_store_model.proofs.Named.{bound_value, called_of}
use Rattle.cedar_store_model.specs.Meaning.{picked, truth_asked, outcome_of, outcomes_of, field_outcomes_of}
use Rattle.cedar_store_model.specs.Knowledge.{IsSettled, IsWhole}
use Rattle.cedar_store_model.proofs.Known.{there}
use Rattle.cedar_evaluator_model.specs.OfLaws.Whole.{LeavesNothing}
use Rattle.cedar_evaluator_model.proofs.SameReads.{same_variable, same_read, same_tested, same_path, same_combined}

-- the world with a value for each unknown
abbrev pub filled : World → World
filled w = record w { unknowns = λ n. Some (unwrap_or (w.unknowns n) (truth_value false)) }

filled_there : (o : Option V) → IsSome o → bound_value (Some (unwrap_or o (truth_value false))) ≡ bound_value o
filled_there None h = cc
filled_there (Some v) h = refl

-- what unknowns mean matters only where they stand
module _ (w : World) (means : Text → Option V) (leaves_nothing : LeavesNothing w.table) where
  same_answered : (f : Name) (vs : List V) (c : Called) → IsTaken w.table f vs → w.table.answers f vs ≡ c → answered means c ≡ answered w.unknowns c
  same_answered f vs (gives v) k e = refl
  same_answered f vs (fails x) k e = refl
  same_answered f vs (leaves n) k e = absurd (leaves_nothing f vs n k e)

  guarded : (count types : Bool) (o p : Option (Res V)) → (count ≡ true → types ≡ true → o ≡ p) → cond count (cond types o (Some (err wrong_type))) (Some (err wrong_count)) ≡ cond count (cond types p (Some (err wrong_type))) (Some (err wrong_count))
  guarded true true o p h = h refl refl
  guarded true false o p h = refl
  guarded false types o p h = refl

  same_call : (f : Name) (vs : List V) (g : Option Signature) → signature_of w.table f ≡ g → called_of w.table means f vs g ≡ called_of w.table w.unknowns f vs g
  same_call f vs None q = refl
  same_call f vs (Some g) q = guarded (takes_count g (length vs)) (are_of_types g.parameters vs) (answered means (w.table.answers f vs)) (answered w.unknowns (w.table.answers f vs)) (λ c t. same_answered f vs (w.table.answers f vs) (g, q, c, t) refl)

  abbrev pub SameAt : Text → Option CoreType → Type 0
  SameAt n a = bound_value (means n) ≡ bound_value (w.unknowns n)

  mutual
    pub same_meant : (t : Tree) → EachIn SameAt t → outcome_of (record w { unknowns = means }) t ≡ outcome_of w t
    same_meant (lit p) h = refl
    same_meant (var x) h = same_variable w w.slots means x
    same_meant (slot s) h = refl
    same_meant (unknown n a) h = h
    same_meant (choice t a b) h = λ i. bind (same_meant t h.0 i) (picked (same_meant a h.1 i) (same_meant b h.2 i))
    same_meant (both a b) h = λ i. bind (same_meant a h.0 i) (picked (bind (same_meant b h.1 i) (λ v. Some (truth_asked v))) (Some (says false)))
    same_meant (either a b) h = λ i. bind (same_meant a h.0 i) (picked (Some (says true)) (bind (same_meant b h.1 i) (λ v. Some (truth_asked v))))
    same_meant (unary o a) h = λ i. bind (same_meant a h i) (λ v. Some (applied o v))
    same_meant (binary o a b) h = λ i. bind (same_meant a h.0 i) (λ v. bind (same_meant b h.1 i) (λ x. same_combined w w.slots means o v x i))
    same_meant (call f ts) h = λ i. bind (same_among ts h i) (λ vs. same_call f vs (signature_of w.table f) refl i)
    same_meant (get_attr t a) h = λ i. bind (same_meant t h i) (λ v. same_read w w.slots means a v i)
    same_meant (has_attr t a) h = λ i. bind (same_meant t h i) (λ v. same_tested w w.slots means a v i)
    same_meant (has_path t a bs) h = λ i. bind (same_meant t h i) (λ v. same_path w w.slots means a bs v i)
    same_meant (like t p) h = λ i. bind (same_meant t h i) (λ v. Some (like_pattern p v))
    same_meant (is_type t n) h = λ i. bind (same_meant t h i) (λ v. Some (of_type n v))
    same_meant (set_literal ts) h = λ i. bind (same_among ts h i) (λ vs. Some (val (set_made vs)))
    same_meant (record_literal fs) h = λ i. bind (same_fields fs h i) (λ vs. Some (val (record_of vs)))

    same_among : (ts : Trees) → EachAmong SameAt ts → outcomes_of (record w { unknowns = means }) ts ≡ outcomes_of w ts
    same_among no_trees h = refl
    same_among (tree t ts) h = λ i. bind (same_meant t h.0 i) (λ v. bind (same_among ts h.1 i) (λ vs. Some (val (v ∷ vs))))

    same_fields : (fs : TreeFields) → EachInFields SameAt fs → field_outcomes_of (record w { unknowns = means }) fs ≡ field_outcomes_of w fs
    same_fields no_tree_fields h = refl
    same_fields (tree_field a t fs) h = λ i. bind (same_meant t h.0 i) (λ v. bind (same_fields fs h.1 i) (λ vs. Some (val (field a v vs))))

module _ (w : World) (leaves_nothing : LeavesNothing w.table) where
  pub same_filled : (t : Tree) → EachIn (λ n a. IsSome (w.unknowns n)) t → outcome_of (filled w) t ≡ outcome_of w t
  same_filled t h =
      same_meant w (filled w).unknowns leaves_nothing t
      ((each_in (λ n a. bound_value ((filled w).unknowns n) ≡ bound_value (w.unknowns n)) t).0 (λ u k. filled_there (w.unknowns u.name) ((each_in (λ n a. IsSome (w.unknowns n)) t).1 h u k)))

  pub whole_filled : IsSome w.principal → IsSome w.action → IsSome w.resource → IsSome w.context → ((u : Uid) → IsSettled (w.store u)) → IsWhole (filled w)
  whole_filled p a r c f = record { principal = p; action = a; resource = r; context = c; unknowns = λ n. refl; store = f }

  pub settled_there : IsSome w.principal → IsSome w.action → IsSome w.resource → IsSome w.context → ((u : Uid) → IsSettled (w.store u)) → (t : Tree) → EachUnknown (λ n a. IsSome (w.unknowns n)) t → IsSome (outcome_of w t)
  settled_there p a r c f t h = subst IsSome (same_filled t ((each_in (λ n a. IsSome (w.unknowns n)) t).0 h)) (there (filled w) (whole_filled p a r c f) t)
