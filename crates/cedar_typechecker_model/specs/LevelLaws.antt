-- What the laws of levels say.
-- Rule: levels (docs/RULES.md).
use Rattle.std.specs.Prelude.{◌≡◌, ◌↔◌, ◌≤◌, ℕ, List, [], Contains}
use Rattle.cedar_expr_model.specs.Name.{Text}
use Rattle.cedar_expr_model.specs.Tree.{Tree}
use Rattle.cedar_expr_model.specs.Table.{Table}
use Rattle.cedar_store_model.specs.Policy.{Policy}
use Rattle.cedar_schema_model.specs.Types.{Mode}
use Rattle.cedar_schema_model.specs.Schema.{Schema}
use Rattle.cedar_typechecker_model.specs.Facts.{Facts}
use Rattle.cedar_typechecker_model.specs.Rules.{Setting}
use Rattle.cedar_typechecker_model.specs.Levels.{Violation, violations, target}
use Rattle.cedar_typechecker_model.specs.Dereferences.{Reaches, IsViolation, TargetHas, IsPolicyViolation}
use Rattle.cedar_typechecker_model.specs.Verdicts.{policy_violations_in}

-- the list has each violation of the expression and no others
abbrev pub ViolationsAreListed : Type 0
ViolationsAreListed = (n : ℕ) (s : Setting) (known : Facts) (t : Tree) (v : Violation) → Contains (violations n s known t) v ↔ IsViolation n s known t v

-- the count of a target is the one that it has, at each level, and the list has the violations on the way
abbrev pub CountsAreExact : Type 0
CountsAreExact = (n : ℕ) (s : Setting) (known : Facts) (path : List Text) (t : Tree) (k : ℕ) → Reaches s known path t k ↔ (k ≡ (target n s known path t).steps)

abbrev pub TargetsAreListed : Type 0
TargetsAreListed = (n : ℕ) (s : Setting) (known : Facts) (path : List Text) (t : Tree) (v : Violation) → Contains (target n s known path t).found v ↔ TargetHas n s known path t v

-- a policy's list has the violations of its environments and no others
abbrev pub PolicyViolationsAreListed : Type 0
PolicyViolationsAreListed = (m : Mode) (n : ℕ) (s : Schema) (x : Table) (p : Policy) (v : Violation) → Contains (policy_violations_in m n s x p) v ↔ IsPolicyViolation m n s x p v

-- a violation at a larger level is one at the smaller
abbrev pub LargerLevelsKeep : Type 0
LargerLevelsKeep = (n m : ℕ) (s : Setting) (known : Facts) (t : Tree) (v : Violation) → n ≤ m → IsViolation m s known t v → IsViolation n s known t v

-- without violations at a level there are none at a larger one
abbrev pub LargerLevelsPass : Type 0
LargerLevelsPass = (n m : ℕ) (s : Setting) (known : Facts) (t : Tree) → n ≤ m → violations n s known t ≡ [] → violations m s known t ≡ []

abbrev pub LargerLevelsPassPolicies : Type 0
LargerLevelsPassPolicies = (w : Mode) (n m : ℕ) (s : Schema) (x : Table) (p : Policy) → n ≤ m → policy_violations_in w n s x p ≡ [] → policy_violations_in w m s x p ≡ []
