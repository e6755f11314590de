-- What is lent is what is left.
use Rattle.std.proofs.Common.{◌≡◌, ◌-◌, ◌<◌, ◌&&◌, ℕ, ℤ, Bool, List, [], refl, sym, ap, ◌∙◌, subst}
use Rattle.std.specs.Prelude.{Option, Some}
use Rattle.std.specs.Option.{option_map_or}
use Rattle.std.proofs.lemmas.Map.Text.{is_eq-slice_cmp}
use Rattle.std.specs.Cmp.Lexicographic.{slice_cmp}
use Rattle.std.specs.Ordering.{is_eq, nat_cmp, ordering_then}
use Rattle.std.specs.declared.cmp.Ordering.{Ordering}
use Rattle.std.specs.declared.cmp.Ordering.TheVariants.{Less, Equal, Greater}
use Rattle.cedar_expr_model.specs.Name.{Text, Name, name_eq}
use Rattle.cedar_expr_model.specs.Uid.{Uid, uid_eq}
use Rattle.cedar_expr_model.specs.Builder.{trees}
use Rattle.cedar_expr_model.specs.Made.{Made, made_prim, bare}
use Rattle.cedar_expr_model.specs.Order.{uid_order}
use Rattle.cedar_expr_model.specs.Pattern.{Pattern}
use Rattle.cedar_expr_model.specs.Table.{Table, Called}
use Rattle.cedar_expr_model.specs.Tree.{Var, UnaryOp, BinaryOp, contains, Tree, lit, var, unary, binary, set_literal, get_attr, has_attr, like, is_type}
use Rattle.cedar_expr_model.specs.Value.{Literal, V, long, entity}
use Rattle.cedar_expr_names.specs.Views.{name_bytes, eid_text, uid_of}
use Rattle.cedar_expr_names.specs.declared.entity.EntityUID.{EntityUID}
use Rattle.cedar_expr_names.proofs.Equality.{uids_eq_is, uids_order_is}
use Rattle.std.specs.Borrow.{Bor}
use Rattle.std.specs.Map.{lookup}
use Rattle.std.specs.Str.{bytes_eq}
use Rattle.cedar_store_entities.specs.Views.{entity_seen}
use Rattle.cedar_store_entities.specs.declared.entity.Entity.{Entity}
use Rattle.cedar_store_entities.specs.declared.entities.Dereference.{Dereference}
use Rattle.cedar_store_entities.specs.declared.entities.Dereference.TheVariants as found
use Rattle.cedar_store_model.specs.Outcome.{missing_entity}
use Rattle.cedar_store_model.specs.Store.{stand_in}
use Rattle.cedar_store_model.specs.World.{Found, by_found}
use Rattle.cedar_store_model.specs.Operators.{applied, like_pattern, of_type}
use Rattle.cedar_evaluator_model.specs.Scope.{Scope, Left, value_left, residual}
use Rattle.cedar_evaluator_model.specs.Steps.{errs, truth_left, on_value, left_of, part_left, part_or_missing, attribute_of, test_of, kind_of_unknown, combined_left}
use Rattle.cedar_evaluator_model.specs.Evaluation.{evaluated, node, variable_left, binary_left, get_of_residual, has_of_residual}
use Rattle.cedar_evaluator_errors.specs.Calls.{Functions}
use Rattle.cedar_evaluator_reads.specs.Scopes.{scope_seen}
use Rattle.cedar_evaluator_reads.specs.Seen.{IsFound}
use Rattle.cedar_evaluator_reads.specs.declared.knowledge.Knowledge.{Knowledge}
use Rattle.cedar_evaluator_operators.specs.Scopes.{scope_of}
use Rattle.cedar_evaluator_operators.proofs.Alike.{variable_alike, attribute_alike, test_alike}
use Rattle.cedar_evaluator_core.specs.Lent.{lent_made, part_found, ContainsWithin, Lends, LendsWithin}
use Rattle.cedar_evaluator_core.specs.declared.lending.Lent.{Lent}
use Rattle.cedar_evaluator_core.specs.declared.lending.Lent.TheVariants as lent
use Rattle.cedar_evaluator_core.proofs.Levels.{one_level}

is_eq_both : (o p : Ordering) → is_eq (ordering_then o p) ≡ (is_eq o && is_eq p)
is_eq_both Less p = refl
is_eq_both Equal p = refl
is_eq_both Greater p = refl

-- equal uids are those between which the order finds no difference
pub same_uid : (u v : EntityUID) → uid_eq (uid_of u) (uid_of v) ≡ is_eq (uid_order (uid_of u) (uid_of v))
same_uid u v =
    let kinds = slice_cmp nat_cmp (name_bytes u.entity_type.0.internal) (name_bytes v.entity_type.0.internal) in
    let ids = slice_cmp nat_cmp (eid_text u.eid) (eid_text v.eid) in
    sym (uids_eq_is u v)
    ∙ sym (λ i. is_eq-slice_cmp (name_bytes u.entity_type.0.internal) (name_bytes v.entity_type.0.internal) i && is_eq-slice_cmp (eid_text u.eid) (eid_text v.eid) i)
    ∙ sym (is_eq_both kinds ids)
    ∙ ap is_eq (uids_order_is u v)

-- a truth value that is lent is what is left
pub truth_lent : (l : Left) (o : Option Lent) (b : Bool) → o ≡ Some (lent.Truth b) → Lends l o → l ≡ truth_left b
truth_lent l o b is h = subst (λ p. Lends l p) is h

-- an attribute of an entity that the store has
pub attribute_held : (s : Scope) (a : Text) (u : Uid) (d : Dereference Entity) (e : Bor Entity) (o : Option Lent) → IsFound (s.store u) u d → d ≡ found.Data e → Lends (part_found s (lookup (bytes_eq a) (entity_seen e.now).attributes)) o → Lends (attribute_of s a (made_prim (entity u))) o
attribute_held s a u d e o h is w = subst (λ f. Lends (from_entity f) o) (sym (subst (λ x. IsFound (s.store u) u x) is h)) w
  where
    from_entity : Found Made → Left
    from_entity f = by_found (λ x. part_or_missing (part_left s) a x.attributes) (errs (missing_entity u)) (residual (get_attr (stand_in u) a)) f

-- an operator of two whole numbers that are lent
pub numbers_lent : (x : BinaryOp) (v w : Lent) (m n : ℤ) (o : Option Lent) → v ≡ lent.Long m → w ≡ lent.Long n → ((s : Scope) → Lends (combined_left s x (made_prim (long m)) (made_prim (long n))) o) → (s : Scope) → Lends (combined_left s x (lent_made v) (lent_made w)) o
numbers_lent x v w m n o first second h s =
    subst (λ y. Lends (combined_left s x (lent_made y) (lent_made w)) o) (sym first)
    (subst (λ y. Lends (combined_left s x (made_prim (long m)) (lent_made y)) o) (sym second) (h s))

module _ {T : Type 0} (table : T → (Name → List V → Called) → Table) (k : Knowledge T) (n : ℕ) (t : Tree) (above : 0 < n) (o : Option Lent) where
  abbrev scope : Functions → Scope
  scope fs = scope_of table fs k

  abbrev go : Functions → Tree → Left
  go fs = evaluated (scope_of table fs k) (n - 1)

  -- one level
  at_level : (u : Tree) → u ≡ t → ((fs : Functions) → Lends (node (scope fs) (go fs) u) o) → LendsWithin table k n t o
  at_level u is f = record { lends = λ fs. subst (λ l. Lends l o) (sym (one_level (scope fs) n t u above is)) (f fs) }

  pub literal_lends : (p : Literal) → lit p ≡ t → Lends (value_left (made_prim p)) o → LendsWithin table k n t o
  literal_lends p is h = at_level (lit p) is (λ fs. h)

  pub variable_lends : (x : Var) → var x ≡ t → Lends (variable_left (scope_seen k) x) o → LendsWithin table k n t o
  variable_lends x is h = at_level (var x) is (λ fs. subst (λ l. Lends l o) (sym (variable_alike table (λ y. []) fs k x)) h)

  -- of one part that is lent
  module _ (u : Tree) (v : Lent) (part : LendsWithin table k (n - 1) u (Some v)) where
    pub get_lends : (a : Text) → get_attr u a ≡ t → Lends (attribute_of (scope_seen k) a (lent_made v)) o → LendsWithin table k n t o
    get_lends a is h = at_level (get_attr u a) is (λ fs.
        subst (λ l. Lends (on_value l (attribute_of (scope fs) a) (get_of_residual (go fs) a)) o) (sym (part.lends fs))
        (subst (λ l. Lends l o) (sym (attribute_alike table (λ y. []) fs k a (lent_made v))) h))

    pub test_lends : (a : Text) → has_attr u a ≡ t → Lends (test_of (scope_seen k) a (lent_made v)) o → LendsWithin table k n t o
    test_lends a is h = at_level (has_attr u a) is (λ fs.
        subst (λ l. Lends (on_value l (test_of (scope fs) a) (has_of_residual a)) o) (sym (part.lends fs))
        (subst (λ l. Lends l o) (sym (test_alike table (λ y. []) fs k a (lent_made v))) h))

    pub unary_lends : (x : UnaryOp) → unary x u ≡ t → Lends (left_of (applied x (bare (lent_made v)))) o → LendsWithin table k n t o
    unary_lends x is h = at_level (unary x u) is (λ fs. subst (λ l. Lends (on_value l (λ m. left_of (applied x (bare m))) (λ r. residual (unary x r))) o) (sym (part.lends fs)) h)

    pub like_lends : (p : Pattern) → like u p ≡ t → Lends (left_of (like_pattern p (bare (lent_made v)))) o → LendsWithin table k n t o
    like_lends p is h = at_level (like u p) is (λ fs. subst (λ l. Lends (on_value l (λ m. left_of (like_pattern p (bare m))) (λ r. residual (like r p))) o) (sym (part.lends fs)) h)

    pub type_lends : (j : Name) → is_type u j ≡ t → Lends (left_of (of_type j (bare (lent_made v)))) o → LendsWithin table k n t o
    type_lends j is h = at_level (is_type u j) is (λ fs.
        subst (λ l. Lends (on_value l (λ m. left_of (of_type j (bare m))) (λ r. option_map_or (λ i. truth_left (name_eq i j)) (kind_of_unknown r) (residual (is_type r j)))) o) (sym (part.lends fs)) h)

    -- and of two
    pub binary_lends : (x : BinaryOp) (b : Tree) (w : Lent) → LendsWithin table k (n - 1) b (Some w) → binary x u b ≡ t → ((s : Scope) → Lends (combined_left s x (lent_made v) (lent_made w)) o) → LendsWithin table k n t o
    binary_lends x b w other is h = at_level (binary x u b) is (λ fs.
        subst (λ l. Lends (binary_left (scope fs) x l (go fs b)) o) (sym (part.lends fs))
        (subst (λ l. Lends (binary_left (scope fs) x (value_left (lent_made v)) l) o) (sym (other.lends fs)) (h (scope fs))))

  -- `contains` of a set literal
  pub contains_lends : (u b : Tree) (ms : List Tree) (w : Lent) → u ≡ set_literal (trees ms) → LendsWithin table k (n - 1) b (Some w) → binary contains u b ≡ t → ContainsWithin table k (n - 1) ms (lent_made w) o → LendsWithin table k n t o
  contains_lends u b ms w members second is h = at_level (binary contains u b) is (λ fs.
      subst (λ l. Lends (binary_left (scope fs) contains (go fs u) l) o) (sym (second.lends fs))
      (subst (λ y. Lends (binary_left (scope fs) contains (go fs y) (value_left (lent_made w))) o) (sym members) (h.lends fs)))
