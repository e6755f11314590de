-- A violation at a larger level is one at the smaller.
use Rattle.std.proofs.Common.{◌≡◌, ◌↔◌, ℕ, ◌+◌, ◌<◌, ◌≤◌, Bool, true, false, List, [], ◌∷◌, Option, Some, None, refl, subst, ◌⊎◌, inl, inr, arith}
use Rattle.std.specs.Prelude.{Contains, MatchBool}
use Rattle.std.specs.Str.{bytes_eq}
use Rattle.cedar_expr_model.specs.Name.{Text}
use Rattle.cedar_expr_model.specs.Table.{Table}
use Rattle.cedar_expr_model.specs.Tree.{get_tag, Tree, lit, var, slot, unknown, choice, both, either, unary, binary, call, get_attr, has_attr, has_path, like, is_type, set_literal, record_literal, Trees, no_trees, tree, TreeFields, no_tree_fields, tree_field}
use Rattle.cedar_expr_model.proofs.Lists.{contains_head, contains_none, flat_has, flat_from}
use Rattle.cedar_store_model.specs.Policy.{Policy, condition}
use Rattle.cedar_schema_model.specs.Types.{BoolType, only_true, only_false, Ty, bool_type, Mode}
use Rattle.cedar_schema_model.specs.Schema.{Schema}
use Rattle.cedar_typechecker_model.specs.Facts.{Facts, no_facts, union}
use Rattle.cedar_typechecker_model.specs.Rules.{Setting}
use Rattle.cedar_typechecker_model.specs.Typing.{Types, type_of}
use Rattle.cedar_store_model.specs.Looks.{looks_up}
use Rattle.cedar_typechecker_model.specs.Levels.{Violation, violations}
use Rattle.cedar_typechecker_model.specs.Dereferences.{ByType, Behind, Branch, AfterTest, TooFar, IsViolation, IsAmong, IsInFields, TargetHas, FieldsHave, IsPolicyViolation}
use Rattle.cedar_typechecker_model.specs.Verdicts.{policy_environments, in_mode, violations_in, policy_violations_in}
use Rattle.cedar_typechecker_model.proofs.Typing.{has_its_type, type_is}
use Rattle.cedar_typechecker_model.proofs.Levels.{violations_are_listed}
use Rattle.cedar_typechecker_model.proofs.Named.{if_typed}

either_keeps : {A B C D : Type 0} → (A → C) → (B → D) → A ⊎ B → C ⊎ D
either_keeps f g (inl a) = inl (f a)
either_keeps f g (inr b) = inr (g b)

where_keeps : {A B C D : Type 0} (b : Bool) → (A → C) → (B → D) → MatchBool b A B → MatchBool b C D
where_keeps true f g = f
where_keeps false f g = g

by_type_keeps : {B D : Type 0} (P : Ty → Facts → Type 0) (test : Ty → Bool) (A C : Ty → Type 0) → ((t : Ty) → A t → C t) → (B → D) → ByType P test A B → ByType P test C D
by_type_keeps P test A C f g (inl h) = inl (h.0, h.1, h.2, h.3, f h.0 h.4)
by_type_keeps P test A C f g (inr h) = inr (h.0, g h.1)

branch_keeps : {A B C D : Type 0} (t : Ty) → (A → C) → (B → D) → Branch t A B → Branch t C D
branch_keeps (bool_type only_true) f g = f
branch_keeps (bool_type only_false) f g = g
branch_keeps t f g = either_keeps f g

after_keeps : {B D : Type 0} (P : Ty → Facts → Type 0) (A C : Facts → Type 0) → ((f : Facts) → A f → C f) → (B → D) → AfterTest P A B → AfterTest P C D
after_keeps P A C f g h = (h.0, h.1, h.2, branch_keeps h.0 (f h.1) g h.3)

behind_keeps : (P : Ty → Facts → Type 0) (b : BoolType) (A C : Facts → Type 0) → ((f : Facts) → A f → C f) → Behind P b A → Behind P b C
behind_keeps P b A C f h = (h.0, h.1, h.2, h.3, f h.1 h.4)

too_far_keeps : (n m : ℕ) (e : Tree) (more : ℕ) (K : ℕ → Type 0) (v : Violation) → n ≤ m → TooFar m e more K v → TooFar n e more K v
too_far_keeps n m e more K v l h = let q : m < h.0 + more = h.2 in (h.0, h.1, omega arith, h.3)

mutual
  pub larger : (n m : ℕ) → n ≤ m → (s : Setting) (known : Facts) (t : Tree) (v : Violation) → IsViolation m s known t v → IsViolation n s known t v
  larger n m l s known (lit p) v h = absurd h
  larger n m l s known (var x) v h = absurd h
  larger n m l s known (slot x) v h = absurd h
  larger n m l s known (unknown k a) v h = absurd h
  larger n m l s known (choice t a b) v h = either_keeps (larger n m l s known t v) (after_keeps (Types s known t) _ _ (λ f. larger n m l s (union known f) a v) (larger n m l s known b v)) h
  larger n m l s known (both a b) v h = either_keeps (larger n m l s known a v) (behind_keeps (Types s known a) only_false _ _ (λ f. larger n m l s (union known f) b v)) h
  larger n m l s known (either a b) v h = either_keeps (larger n m l s known a v) (behind_keeps (Types s known a) only_true _ _ (λ f. larger n m l s known b v)) h
  larger n m l s known (unary o a) v h = larger n m l s known a v h
  larger n m l s known (binary o a b) v h =
      either_keeps (where_keeps (looks_up o) (either_keeps (too_far_keeps n m (binary o a b) 1 _ v l) (larger_target n m l s known [] a v)) (larger n m l s known a v)) (larger n m l s known b v) h
  larger n m l s known (call f ts) v h = larger_among n m l s known ts v h
  larger n m l s known (get_attr e a) v h = by_type_keeps (Types s known e) _ _ _ (λ t. either_keeps (too_far_keeps n m (get_attr e a) 1 _ v l) (larger_target n m l s known [] e v)) (larger n m l s known e v) h
  larger n m l s known (has_attr e a) v h = by_type_keeps (Types s known e) _ _ _ (λ t. either_keeps (too_far_keeps n m (has_attr e a) 1 _ v l) (larger_target n m l s known [] e v)) (larger n m l s known e v) h
  larger n m l s known (has_path e a bs) v h = by_type_keeps (Types s known e) _ _ _ (λ t. either_keeps (too_far_keeps n m (has_path e a bs) _ _ v l) (larger_target n m l s known _ e v)) (larger n m l s known e v) h
  larger n m l s known (like e p) v h = larger n m l s known e v h
  larger n m l s known (is_type e k) v h = larger n m l s known e v h
  larger n m l s known (set_literal ts) v h = larger_among n m l s known ts v h
  larger n m l s known (record_literal fs) v h = larger_in_fields n m l s known fs v h

  larger_among : (n m : ℕ) → n ≤ m → (s : Setting) (known : Facts) (ts : Trees) (v : Violation) → IsAmong m s known ts v → IsAmong n s known ts v
  larger_among n m l s known no_trees v h = absurd h
  larger_among n m l s known (tree e es) v h = either_keeps (larger n m l s known e v) (larger_among n m l s known es v) h

  larger_in_fields : (n m : ℕ) → n ≤ m → (s : Setting) (known : Facts) (fs : TreeFields) (v : Violation) → IsInFields m s known fs v → IsInFields n s known fs v
  larger_in_fields n m l s known no_tree_fields v h = absurd h
  larger_in_fields n m l s known (tree_field a e fs) v h = either_keeps (larger n m l s known e v) (larger_in_fields n m l s known fs v) h

  larger_target : (n m : ℕ) → n ≤ m → (s : Setting) (known : Facts) (path : List Text) (t : Tree) (v : Violation) → TargetHas m s known path t v → TargetHas n s known path t v
  larger_target n m l s known path (lit p) v h = h
  larger_target n m l s known path (slot x) v h = h
  larger_target n m l s known path (choice t a b) v h = either_keeps (larger n m l s known t v) (after_keeps (Types s known t) _ _ (λ f. larger_target n m l s (union known f) path a v) (larger_target n m l s known path b v)) h
  larger_target n m l s known path (get_attr e a) v h = by_type_keeps (Types s known e) _ _ _ (λ t. larger_target n m l s known [] e v) (larger_target n m l s known (a ∷ path) e v) h
  larger_target n m l s known path (binary get_tag a b) v h = either_keeps (larger n m l s known b v) (larger_target n m l s known [] a v) h
  larger_target n m l s known path (record_literal fs) v h = larger_fields n m l s known path fs v h
  larger_target n m l s known path e v h = absurd h

  larger_fields : (n m : ℕ) → n ≤ m → (s : Setting) (known : Facts) (path : List Text) (fs : TreeFields) (v : Violation) → FieldsHave m s known path fs v → FieldsHave n s known path fs v
  larger_fields n m l s known path no_tree_fields v h = absurd h
  larger_fields n m l s known [] (tree_field b e fs) v h = either_keeps (larger n m l s known e v) (larger_fields n m l s known [] fs v) h
  larger_fields n m l s known (a ∷ path) (tree_field b e fs) v h =
      where_keeps (bytes_eq a b) (either_keeps (larger_in_fields n m l s known fs v) (larger_target n m l s known path e v)) (either_keeps (larger n m l s known e v) (larger_fields n m l s known (a ∷ path) fs v)) h

pub larger_levels_keep : (n m : ℕ) (s : Setting) (known : Facts) (t : Tree) (v : Violation) → n ≤ m → IsViolation m s known t v → IsViolation n s known t v
larger_levels_keep n m s known t v l h = larger n m l s known t v h

-- a list that has nothing is empty, and an empty one has nothing
empty_list : (vs : List Violation) → ((v : Violation) → Contains vs v → ⊥) → vs ≡ []
empty_list [] h = refl
empty_list (v ∷ vs) h = absurd (h v (contains_head v vs))

nothing_in : (vs : List Violation) (v : Violation) → vs ≡ [] → Contains vs v → ⊥
nothing_in vs v e h = contains_none v (subst (λ ws. Contains ws v) e h)

pub larger_levels_pass : (n m : ℕ) (s : Setting) (known : Facts) (t : Tree) → n ≤ m → violations n s known t ≡ [] → violations m s known t ≡ []
larger_levels_pass n m s known t l e = empty_list (violations m s known t) (λ v h. nothing_in (violations n s known t) v e ((violations_are_listed n s known t v).1 (larger n m l s known t v ((violations_are_listed m s known t v).0 h))))

-- the violations of a policy in an environment
typed_from : (o : Option Ty) (vs : List Violation) (v : Violation) → Contains (if_typed o vs) v → (t : Ty) × (o ≡ Some t) × Contains vs v
typed_from None vs v h = absurd (contains_none v h)
typed_from (Some t) vs v h = (t, refl, h)

typed_has : (o : Option Ty) (t : Ty) (vs : List Violation) (v : Violation) → o ≡ Some t → Contains vs v → Contains (if_typed o vs) v
typed_has None t vs v e h = cc
typed_has (Some u) t vs v e h = h

pub policy_violations_are_listed : (w : Mode) (n : ℕ) (s : Schema) (x : Table) (p : Policy) (v : Violation) → Contains (policy_violations_in w n s x p) v ↔ IsPolicyViolation w n s x p v
policy_violations_are_listed w n s x p v = (forward, back)
  where
    forward : Contains (policy_violations_in w n s x p) v → IsPolicyViolation w n s x p v
    forward h =
        let r = flat_from (violations_in w n s x p) (policy_environments s p) v h in
        let k = typed_from (type_of (in_mode w s x r.0) (condition p)) (violations n (in_mode w s x r.0) no_facts (condition p)) v r.2 in
        let d = has_its_type (in_mode w s x r.0) (condition p) k.0 k.1 in
        (r.0, r.1, k.0, d.0, d.1, (violations_are_listed n (in_mode w s x r.0) no_facts (condition p) v).0 k.2)

    back : IsPolicyViolation w n s x p v → Contains (policy_violations_in w n s x p) v
    back h = flat_has (violations_in w n s x p) (policy_environments s p) h.0 v h.1
        (typed_has (type_of (in_mode w s x h.0) (condition p)) h.2 (violations n (in_mode w s x h.0) no_facts (condition p)) v (type_is (in_mode w s x h.0) (condition p) h.2 h.3 h.4) ((violations_are_listed n (in_mode w s x h.0) no_facts (condition p) v).1 h.5))

pub larger_levels_pass_policies : (w : Mode) (n m : ℕ) (s : Schema) (x : Table) (p : Policy) → n ≤ m → policy_violations_in w n s x p ≡ [] → policy_violations_in w m s x p ≡ []
larger_levels_pass_policies w n m s x p l e = empty_list (policy_violations_in w m s x p) (λ v h. nothing_in (policy_violations_in w n s x p) v e ((policy_violations_are_listed w n s x p v).1 (smaller v ((policy_violations_are_listed w m s x p v).0 h))))
  where
    smaller : (v : Violation) → IsPolicyViolation w m s x p v → IsPolicyViolation w n s x p v
    smaller v h = (h.0, h.1, h.2, h.3, h.4, larger n m l (in_mode w s x h.0) no_facts (condition p) v h.5)
