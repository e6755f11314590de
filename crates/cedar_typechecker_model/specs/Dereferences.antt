-- The violations of an expression, and the count of a target, as relations: by the types that parts have.
-- Rule: levels (docs/RULES.md).
use Rattle.std.specs.Prelude.{◌≡◌, ◌+◌, ◌<◌, ℕ, max, nat_lt, List, [], ◌∷◌, Contains, Bool, true, false, Some, None, MatchBool}
use Rattle.std.specs.Str.{bytes_eq}
use Rattle.std.proofs.Common.{◌⊎◌}
use Rattle.cedar_expr_model.specs.Name.{Text}
use Rattle.cedar_expr_model.specs.Value.{Literal, entity}
use Rattle.cedar_expr_model.specs.Table.{Table}
use Rattle.cedar_expr_model.specs.Tree.{get_tag, Tree, lit, slot, choice, both, either, unary, binary, call, get_attr, has_attr, has_path, like, is_type, set_literal, record_literal, Trees, no_trees, tree, TreeFields, no_tree_fields, tree_field}
use Rattle.cedar_store_model.specs.Policy.{Policy, condition}
use Rattle.cedar_schema_model.specs.Types.{BoolType, only_true, only_false, Ty, bool_type, Mode}
use Rattle.cedar_schema_model.specs.Schema.{Schema}
use Rattle.cedar_schema_model.specs.Environment.{Environment}
use Rattle.cedar_typechecker_model.specs.Facts.{Facts, no_facts, union}
use Rattle.cedar_typechecker_model.specs.Rules.{Setting}
use Rattle.cedar_typechecker_model.specs.Typing.{Types}
use Rattle.cedar_typechecker_model.specs.Levels.{Violation, needed, is_entity, entity_steps, fields_before}
use Rattle.cedar_store_model.specs.Looks.{looks_up}
use Rattle.cedar_typechecker_model.specs.Verdicts.{policy_environments, in_mode}

-- where a part has a type that passes, what follows from it; where it has none, the other
abbrev pub ByType : (Ty → Facts → Type 0) → (Ty → Bool) → (Ty → Type 0) → Type 0 → Type 0
ByType typed test first second = ((t : Ty) × (f : Facts) × typed t f × (test t ≡ true) × first t) ⊎ (((t : Ty) (f : Facts) → typed t f → test t ≡ false) × second)

-- Of the right side of `and` and `or`: the left has a type, with these facts, and not the one that ends it.
abbrev pub Behind : (Ty → Facts → Type 0) → BoolType → (Facts → Type 0) → Type 0
Behind typed end right = (t : Ty) × (f : Facts) × typed t f × (t ≡ bool_type end → ⊥) × right f

-- of the branches of a choice: of the one that is taken, or of either
abbrev pub Branch : Ty → Type 0 → Type 0 → Type 0
Branch (bool_type only_true) first second = first
Branch (bool_type only_false) first second = second
Branch t first second = first ⊎ second

abbrev pub AfterTest : (Ty → Facts → Type 0) → (Facts → Type 0) → Type 0 → Type 0
AfterTest typed first second = (t : Ty) × (f : Facts) × typed t f × Branch t (first f) second

-- the count of a choice: that of the branch that is taken, or the greater; without a type of the test it is zero
abbrev pub BranchCount : Ty → (ℕ → Type 0) → (ℕ → Type 0) → ℕ → Type 0
BranchCount (bool_type only_true) first second = first
BranchCount (bool_type only_false) first second = second
BranchCount t first second = λ k. (i : ℕ) × (j : ℕ) × first i × second j × (k ≡ max i j)

abbrev pub CountAfterTest : (Ty → Facts → Type 0) → (Facts → ℕ → Type 0) → (ℕ → Type 0) → ℕ → Type 0
CountAfterTest typed first second k = ((t : Ty) × (f : Facts) × typed t f × BranchCount t (first f) second k) ⊎ (((t : Ty) (f : Facts) → typed t f → ⊥) × (k ≡ 0))

-- so many steps further
abbrev pub Further : ℕ → (ℕ → Type 0) → ℕ → Type 0
Further more reached k = (j : ℕ) × reached j × (k ≡ j + more)

abbrev pub is_entity_type : Ty → Bool
is_entity_type t = is_entity (Some t)

-- The count of a target: how far the entity lies that the fields of the path lead to from the expression.
abbrev mutual
  pub Reaches : Setting → Facts → List Text → Tree → ℕ → Type 0
  Reaches s known path (choice t a b) = CountAfterTest (Types s known t) (λ f. Reaches s (union known f) path a) (Reaches s known path b)
  Reaches s known path (get_attr e a) = λ k. ByType (Types s known e) is_entity_type (λ t. Further 1 (Reaches s known [] e) k) (Reaches s known (a ∷ path) e k)
  Reaches s known path (binary get_tag a b) = Further 1 (Reaches s known [] a)
  Reaches s known path (record_literal fs) = ReachesByField s known path fs
  Reaches s known path e = λ k. k ≡ 0

  pub ReachesByField : Setting → Facts → List Text → TreeFields → ℕ → Type 0
  ReachesByField s known path no_tree_fields = λ k. k ≡ 0
  ReachesByField s known [] (tree_field b e fs) = ReachesByField s known [] fs
  ReachesByField s known (a ∷ path) (tree_field b e fs) = λ k. MatchBool (bytes_eq a b) (Reaches s known path e k) (ReachesByField s known (a ∷ path) fs k)

-- Steps further from a target are too many for the level: a violation on the whole of the step, with the level that it needs.
abbrev pub TooFar : ℕ → Tree → ℕ → (ℕ → Type 0) → Violation → Type 0
TooFar n e more reached v = (k : ℕ) × reached k × (n < k + more) × (v ≡ record { at = e; required = Some (needed (k + more)) })

-- A uid that is reached from must be the action of the environment.
abbrev pub LiteralHas : Setting → Literal → Violation → Type 0
LiteralHas s (entity u) v = (u ≡ s.env.action → ⊥) × (v ≡ record { at = lit (entity u); required = None })
LiteralHas s p v = ⊥

abbrev mutual
  -- This is a violation of the expression at the level.
  pub IsViolation : ℕ → Setting → Facts → Tree → Violation → Type 0
  IsViolation n s known (choice t a b) v = IsViolation n s known t v ⊎ AfterTest (Types s known t) (λ f. IsViolation n s (union known f) a v) (IsViolation n s known b v)
  IsViolation n s known (both a b) v = IsViolation n s known a v ⊎ Behind (Types s known a) only_false (λ f. IsViolation n s (union known f) b v)
  IsViolation n s known (either a b) v = IsViolation n s known a v ⊎ Behind (Types s known a) only_true (λ f. IsViolation n s known b v)
  IsViolation n s known (unary o a) v = IsViolation n s known a v
  IsViolation n s known (binary o a b) v =
      MatchBool (looks_up o) (TooFar n (binary o a b) 1 (Reaches s known [] a) v ⊎ TargetHas n s known [] a v) (IsViolation n s known a v) ⊎ IsViolation n s known b v
  IsViolation n s known (call f ts) v = IsAmong n s known ts v
  IsViolation n s known (get_attr e a) v =
      ByType (Types s known e) is_entity_type (λ t. TooFar n (get_attr e a) 1 (Reaches s known [] e) v ⊎ TargetHas n s known [] e v) (IsViolation n s known e v)
  IsViolation n s known (has_attr e a) v =
      ByType (Types s known e) is_entity_type (λ t. TooFar n (has_attr e a) 1 (Reaches s known [] e) v ⊎ TargetHas n s known [] e v) (IsViolation n s known e v)
  IsViolation n s known (has_path e a bs) v =
      ByType (Types s known e) (λ t. nat_lt 0 (entity_steps s a bs (Some t)))
      (λ t. TooFar n (has_path e a bs) (entity_steps s a bs (Some t)) (Reaches s known (fields_before s a bs (Some t)) e) v ⊎ TargetHas n s known (fields_before s a bs (Some t)) e v)
      (IsViolation n s known e v)
  IsViolation n s known (like e p) v = IsViolation n s known e v
  IsViolation n s known (is_type e m) v = IsViolation n s known e v
  IsViolation n s known (set_literal ts) v = IsAmong n s known ts v
  IsViolation n s known (record_literal fs) v = IsInFields n s known fs v
  IsViolation n s known e v = ⊥

  pub IsAmong : ℕ → Setting → Facts → Trees → Violation → Type 0
  IsAmong n s known no_trees v = ⊥
  IsAmong n s known (tree e es) v = IsViolation n s known e v ⊎ IsAmong n s known es v

  pub IsInFields : ℕ → Setting → Facts → TreeFields → Violation → Type 0
  IsInFields n s known no_tree_fields v = ⊥
  IsInFields n s known (tree_field a e fs) v = IsViolation n s known e v ⊎ IsInFields n s known fs v

  -- This is a violation on the way to what a target leads to: of a test, a tag, another field, a literal or a slot.
  pub TargetHas : ℕ → Setting → Facts → List Text → Tree → Violation → Type 0
  TargetHas n s known path (lit p) v = LiteralHas s p v
  TargetHas n s known path (slot x) v = v ≡ record { at = slot x; required = None }
  TargetHas n s known path (choice t a b) v = IsViolation n s known t v ⊎ AfterTest (Types s known t) (λ f. TargetHas n s (union known f) path a v) (TargetHas n s known path b v)
  TargetHas n s known path (get_attr e a) v = ByType (Types s known e) is_entity_type (λ t. TargetHas n s known [] e v) (TargetHas n s known (a ∷ path) e v)
  TargetHas n s known path (binary get_tag a b) v = IsViolation n s known b v ⊎ TargetHas n s known [] a v
  TargetHas n s known path (record_literal fs) v = FieldsHave n s known path fs v
  TargetHas n s known path e v = ⊥

  pub FieldsHave : ℕ → Setting → Facts → List Text → TreeFields → Violation → Type 0
  FieldsHave n s known path no_tree_fields v = ⊥
  FieldsHave n s known [] (tree_field b e fs) v = IsViolation n s known e v ⊎ FieldsHave n s known [] fs v
  FieldsHave n s known (a ∷ path) (tree_field b e fs) v =
      MatchBool (bytes_eq a b) (IsInFields n s known fs v ⊎ TargetHas n s known path e v) (IsViolation n s known e v ⊎ FieldsHave n s known (a ∷ path) fs v)

-- A violation of a policy: one of its condition in an environment in which that has a type.
abbrev pub IsPolicyViolation : Mode → ℕ → Schema → Table → Policy → Violation → Type 0
IsPolicyViolation m n s x p v =
    (e : Environment) × Contains (policy_environments s p) e × (t : Ty) × (f : Facts) × Types (in_mode m s x e) no_facts (condition p) t f × IsViolation n (in_mode m s x e) no_facts (condition p) v
