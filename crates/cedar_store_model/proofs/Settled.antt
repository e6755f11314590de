-- Where everything is known but unknowns, an expression whose unknowns are bound has an outcome.
use Rattle.std.proofs.Common.{◌≡◌, Bool, true, false, cond, List, [], ◌∷◌, refl, sym, ap, subst}
use Rattle.std.specs.Prelude.{Option, Some, None, length, IsSome, is_some, unwrap_or, find}
use Rattle.std.specs.List.{list_all, list_any}
use Rattle.std.specs.Map.{lookup}
use Rattle.cedar_expr_model.specs.Name.{Text, Name, name_eq}
use Rattle.cedar_expr_model.specs.Uid.{Uid, uid_eq}
use Rattle.cedar_expr_model.specs.Uids.{is_uid}
use Rattle.cedar_expr_model.specs.Value.{text, entity, V, prim, record_of, field, truth_value}
use Rattle.cedar_expr_model.specs.Canonical.{set_made}
use Rattle.cedar_expr_model.specs.Tree.{CoreType, Tree, lit, var, slot, unknown, choice, both, either, unary, binary, call, get_attr, has_attr, has_path, like, is_type, set_literal, record_literal, Trees, no_trees, tree, TreeFields, no_tree_fields, tree_field, Var, principal, action, resource, context, BinaryOp, is_in, get_tag, has_tag}
use Rattle.cedar_expr_model.specs.Table.{Table, Signature, Called, gives, fails, leaves, signature_of, takes_count, are_of_types, all_typed}
use Rattle.cedar_expr_model.specs.OfLaws.Fair.{IsTaken, IsAnswer, IsFair}
use Rattle.cedar_expr_model.proofs.Lists.{both_hold}
use Rattle.cedar_expr_model.proofs.Gathering.{EachIn, each_in, EachAmong, EachInFields}
use Rattle.cedar_store_model.specs.Outcome.{Res, val, bind, wrong_type, wrong_count, err}
use Rattle.cedar_store_model.specs.World.{World, Found}
use Rattle.cedar_store_model.specs.Operators.{says, applied, like_pattern, of_type, answered}
use Rattle.cedar_store_model.specs.Reads.{attribute_read, attribute_tested, within}
use Rattle.cedar_store_model.specs.Meaning.{Means, variable, combined, picked, truth_asked, outcome_of, outcomes_of, field_outcomes_of, path_tested}
use Rattle.cedar_store_model.specs.Knowledge.{holds_values, IsSettled, IsWhole}
use Rattle.cedar_store_model.specs.Store.{Store, Extent, whole, if_uid, found_as, look_up}
use Rattle.cedar_store_model.proofs.Named.{bound_value, called_of, tag_read, tag_tested}
use Rattle.cedar_store_model.proofs.Known.{an_outcome}
use Rattle.cedar_store_model.proofs.Meaning.{outcome_means, means_outcome, one_outcome}
use Rattle.cedar_store_model.proofs.Stores.{settled, settled_if_uid}
use Rattle.cedar_store_model.specs.Settled.{CallsLeaveNone, IsSettledWorld, BindsUnknowns}

-- what is read doesn't ask for unknowns
module _ (w : World) (z : Text → Option V) where
  same_variable : (x : Var) → variable (record w { unknowns = z }) x ≡ variable w x
  same_variable principal = refl
  same_variable action = refl
  same_variable resource = refl
  same_variable context = refl

  same_read : (a : Text) (v : V) → attribute_read (record w { unknowns = z }) a v ≡ attribute_read w a v
  same_read a (prim (entity u)) = refl
  same_read a v = refl

  same_tested : (a : Text) (v : V) → attribute_tested (record w { unknowns = z }) a v ≡ attribute_tested w a v
  same_tested a (prim (entity u)) = refl
  same_tested a v = refl

  same_path : (a : Text) (bs : List Text) (v : V) → path_tested (record w { unknowns = z }) a bs v ≡ path_tested w a bs v
  same_path a [] v = same_tested a v
  same_path a (b ∷ bs) v = λ i. bind (same_tested a v i) (picked (bind (same_read a v i) (λ x. same_path b bs x i)) (Some (says false)))

  same_tag_read : (v x : V) → tag_read (record w { unknowns = z }) v x ≡ tag_read w v x
  same_tag_read (prim (entity u)) (prim (text a)) = refl
  same_tag_read v x = refl

  same_tag_tested : (v x : V) → tag_tested (record w { unknowns = z }) v x ≡ tag_tested w v x
  same_tag_tested (prim (entity u)) (prim (text a)) = refl
  same_tag_tested v x = refl

  same_within : (v x : V) → within (record w { unknowns = z }) v x ≡ within w v x
  same_within (prim (entity u)) x = refl
  same_within v x = refl

  same_combined : (o : BinaryOp) (v x : V) → combined (record w { unknowns = z }) o v x ≡ combined w o v x
  same_combined is_in v x = same_within v x
  same_combined get_tag v x = same_tag_read v x
  same_combined has_tag v x = same_tag_tested v x
  same_combined o v x = refl

-- what unknowns mean matters only where they stand
module _ (w : World) (z : Text → Option V) (none : CallsLeaveNone w.table) where
  same_answered : (f : Name) (vs : List V) (c : Called) → IsTaken w.table f vs → w.table.answers f vs ≡ c → answered z c ≡ answered w.unknowns c
  same_answered f vs (gives v) k e = refl
  same_answered f vs (fails x) k e = refl
  same_answered f vs (leaves n) k e = absurd (none f vs n k e)

  guarded : (count types : Bool) (o p : Option (Res V)) → (count ≡ true → types ≡ true → o ≡ p) → cond count (cond types o (Some (err wrong_type))) (Some (err wrong_count)) ≡ cond count (cond types p (Some (err wrong_type))) (Some (err wrong_count))
  guarded true true o p h = h refl refl
  guarded true false o p h = refl
  guarded false types o p h = refl

  same_call : (f : Name) (vs : List V) (g : Option Signature) → signature_of w.table f ≡ g → called_of w.table z f vs g ≡ called_of w.table w.unknowns f vs g
  same_call f vs None q = refl
  same_call f vs (Some g) q = guarded (takes_count g (length vs)) (are_of_types g.parameters vs) (answered z (w.table.answers f vs)) (answered w.unknowns (w.table.answers f vs)) (λ c t. same_answered f vs (w.table.answers f vs) (g, q, c, t) refl)

  abbrev SameAt : Text → Option CoreType → Type 0
  SameAt n a = bound_value (z n) ≡ bound_value (w.unknowns n)

  mutual
    same_meant : (t : Tree) → EachIn SameAt t → outcome_of (record w { unknowns = z }) t ≡ outcome_of w t
    same_meant (lit p) h = refl
    same_meant (var x) h = same_variable w z x
    same_meant (slot s) h = refl
    same_meant (unknown n a) h = h
    same_meant (choice t a b) h = λ i. bind (same_meant t h.0 i) (picked (same_meant a h.1 i) (same_meant b h.2 i))
    same_meant (both a b) h = λ i. bind (same_meant a h.0 i) (picked (bind (same_meant b h.1 i) (λ v. Some (truth_asked v))) (Some (says false)))
    same_meant (either a b) h = λ i. bind (same_meant a h.0 i) (picked (Some (says true)) (bind (same_meant b h.1 i) (λ v. Some (truth_asked v))))
    same_meant (unary o a) h = λ i. bind (same_meant a h i) (λ v. Some (applied o v))
    same_meant (binary o a b) h = λ i. bind (same_meant a h.0 i) (λ v. bind (same_meant b h.1 i) (λ x. same_combined w z o v x i))
    same_meant (call f ts) h = λ i. bind (same_among ts h i) (λ vs. same_call f vs (signature_of w.table f) refl i)
    same_meant (get_attr t a) h = λ i. bind (same_meant t h i) (λ v. same_read w z a v i)
    same_meant (has_attr t a) h = λ i. bind (same_meant t h i) (λ v. same_tested w z a v i)
    same_meant (has_path t a bs) h = λ i. bind (same_meant t h i) (λ v. same_path w z a bs v i)
    same_meant (like t p) h = λ i. bind (same_meant t h i) (λ v. Some (like_pattern p v))
    same_meant (is_type t n) h = λ i. bind (same_meant t h i) (λ v. Some (of_type n v))
    same_meant (set_literal ts) h = λ i. bind (same_among ts h i) (λ vs. Some (val (set_made vs)))
    same_meant (record_literal fs) h = λ i. bind (same_fields fs h i) (λ vs. Some (val (record_of vs)))

    same_among : (ts : Trees) → EachAmong SameAt ts → outcomes_of (record w { unknowns = z }) ts ≡ outcomes_of w ts
    same_among no_trees h = refl
    same_among (tree t ts) h = λ i. bind (same_meant t h.0 i) (λ v. bind (same_among ts h.1 i) (λ vs. Some (val (v ∷ vs))))

    same_fields : (fs : TreeFields) → EachInFields SameAt fs → field_outcomes_of (record w { unknowns = z }) fs ≡ field_outcomes_of w fs
    same_fields no_tree_fields h = refl
    same_fields (tree_field a t fs) h = λ i. bind (same_meant t h.0 i) (λ v. bind (same_fields fs h.1 i) (λ vs. Some (val (field a v vs))))

-- the world with a value for each unknown
abbrev filled : World → World
filled w = record w { unknowns = λ n. Some (unwrap_or (w.unknowns n) (truth_value false)) }

filled_there : (o : Option V) → IsSome o → bound_value (Some (unwrap_or o (truth_value false))) ≡ bound_value o
filled_there None h = cc
filled_there (Some v) h = refl

whole_filled : (w : World) → IsSettledWorld w → IsWhole (filled w)
whole_filled w h = record { principal = h.principal; action = h.action; resource = h.resource; context = h.context; unknowns = λ n. refl; store = h.store }

same_filled : (w : World) → CallsLeaveNone w.table → (t : Tree) → BindsUnknowns w t → outcome_of (filled w) t ≡ outcome_of w t
same_filled w none t h =
    same_meant w (filled w).unknowns none t
    ((each_in (λ n a. bound_value ((filled w).unknowns n) ≡ bound_value (w.unknowns n)) t).0 (λ u k. filled_there (w.unknowns u.name) (h u k)))

pub an_answer : (w : World) → IsSettledWorld w → (t : Tree) → BindsUnknowns w t → (r : Res V) × (outcome_of w t ≡ Some r)
an_answer w s t h =
    let k = an_outcome (filled w) (whole_filled w s) t in
    (k.0, subst (λ o. o ≡ Some k.0) (same_filled w s.calls t h) (means_outcome (filled w) t k.0 k.1))

pub settled_worlds_answer : (w : World) → IsSettledWorld w → (t : Tree) → BindsUnknowns w t → (r : Res V) × Means w t r × ((s : Res V) → Means w t s → s ≡ r)
settled_worlds_answer w s t h =
    let k = an_answer w s t h in
    let m = outcome_means w t k.0 k.1 in
    (k.0, m, λ r n. one_outcome w t r k.0 n m)

-- whole stores of values
settled_either : (b : Bool) (f : Extent → Found V) → IsSettled (f whole) → IsSettled (f (cond b whole whole))
settled_either true f h = h
settled_either false f h = h

pub whole_stores_are_settled : (s : Store) → s.extent ≡ whole → list_all (λ (e : Uid × _). holds_values e.1) s.entities ≡ true → (u : Uid) → IsSettled (look_up s u)
whole_stores_are_settled s x h u =
    let at : Extent → Found V = λ y. if_uid u (found_as y (lookup (uid_eq u) s.entities)) in
    subst (λ (y : Extent). IsSettled (at (cond (list_any (uid_eq u) s.absent) whole y))) (sym x)
    (settled_either (list_any (uid_eq u) s.absent) at (settled_if_uid (is_uid u) (found_as whole (lookup (uid_eq u) s.entities)) (settled s.entities h u)))

-- fair tables
typed_case : (b : Bool) (s g : Signature) (o : Option Signature) → cond b (Some s) o ≡ Some g → is_some s.result ≡ true → (o ≡ Some g → is_some g.result ≡ true) → is_some g.result ≡ true
typed_case true s g o q i r = let same : s ≡ g = cc in subst (λ x. is_some x.result ≡ true) same i
typed_case false s g o q i r = r q

typed_among : (f : Name) (ss : List Signature) (g : Signature) → find (λ (x : Signature). name_eq f x.name) ss ≡ Some g → list_all (λ s. is_some s.result) ss ≡ true → is_some g.result ≡ true
typed_among f [] g e h = cc
typed_among f (s ∷ ss) g e h =
    let k = both_hold (is_some s.result) (list_all (λ s. is_some s.result) ss) h in
    typed_case (name_eq f s.name) s g (find (λ (x : Signature). name_eq f x.name) ss) e k.0 (λ q. typed_among f ss g q k.1)

pub typed_tables_leave_none : (x : Table) → IsFair x → all_typed x ≡ true → CallsLeaveNone x
typed_tables_leave_none x fair typed f vs n t e =
    let answer : IsAnswer t.0 (leaves n) = subst (IsAnswer t.0) e (fair f t.0 vs t.1 t.2 t.3) in
    let result = typed_among f x.functions t.0 t.1 typed in
    let none : is_some (t.0).result ≡ false = ap is_some answer in
    cc
