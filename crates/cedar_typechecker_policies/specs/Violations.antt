-- Violations of policies at a level.
-- Rule: levels (docs/RULES.md).
use Rattle.std.specs.Prelude.{◌≡◌, ◌++◌, ℕ, List, [], map, Option, Some, None, option_map}
use Rattle.std.specs.Option.{option_map_or}
use Rattle.std.specs.declared.alloc.Global.{Global}
use Rattle.std.specs.declared.vec.Vec.{Vec}
use Rattle.cedar_expr_model.specs.Name.{Text}
use Rattle.cedar_expr_model.specs.Tree.{Tree}
use Rattle.cedar_expr_trees.specs.Trees.{tree_of}
use Rattle.cedar_store_parts.specs.Parts.{id_text}
use Rattle.cedar_store_parts.specs.Views.{too_deep}
use Rattle.cedar_store_parts.specs.declared.policy_id.PolicyID.{PolicyID}
use Rattle.cedar_typechecker_levels.specs.declared.level.EntityDerefLevel.{EntityDerefLevel}
use Rattle.cedar_typechecker_model.specs.Facts.{no_facts}
use Rattle.cedar_typechecker_model.specs.Levels.{Violation, violations}
use Rattle.cedar_typechecker_model.specs.Rules.{Setting}
use Rattle.cedar_typechecker_model.specs.Typing.{type_of}
use Rattle.cedar_typechecker_policies.specs.Checks.{IsChecked}
use Rattle.cedar_typechecker_policies.specs.declared.checked.Checked.{Checked}
use Rattle.cedar_typechecker_policies.specs.declared.violations.PolicyViolation.{PolicyViolation}
use Rattle.cedar_typechecker_scopes.specs.Faults.{Blame, blame}

-- A violation, with the id of its policy.
pub record Reached : Type 0 where
  pub policy : Text
  pub violation : Violation

abbrev pub reached_in : Text → Violation → Reached
reached_in id v = record { policy = id; violation = v }

abbrev pub violation_told : PolicyViolation → Reached
violation_told v = reached_in (id_text v.policy_id) (record { at = tree_of v.expr; required = v.required })

-- the violations of an expression that has a type, at a level or where none is given
abbrev pub violated : ℕ → Setting → Tree → List Violation
violated n s t = option_map_or (λ _. violations n s no_facts t) (type_of s t) []

abbrev pub violated_by : Option ℕ → Setting → Tree → List Violation
violated_by None s t = []
violated_by (Some n) s t = violated n s t

abbrev pub level_of : Option EntityDerefLevel → Option ℕ
level_of l = option_map (λ n. n.level) l

-- what is said of a violation of the policy of this id
abbrev pub reached_by : Text → Violation → Blame
reached_by id v = blame id (too_deep v.required)

abbrev pub blame_told : PolicyViolation → Blame
blame_told v = reached_by (violation_told v).policy (violation_told v).violation

-- To the violations these are appended, and these of the policy.
abbrev pub AddsReached : Vec PolicyViolation Global → Vec PolicyViolation Global → List Reached → Type 0
AddsReached old new rs = map violation_told new.items ≡ map violation_told old.items ++ rs

abbrev pub AddsReachedBy : PolicyID → Vec PolicyViolation Global → Vec PolicyViolation Global → List Violation → Type 0
AddsReachedBy i old new vs = AddsReached old new (map (reached_in (id_text i)) vs)

-- To the violations those of the typed condition of the policy are appended, at the level if there is one.
abbrev pub AddsChecked : Option ℕ → Setting → PolicyID → Checked → Vec PolicyViolation Global → Vec PolicyViolation Global → Type 0
AddsChecked n s i c old new = (t : Tree) → IsChecked s t (id_text i) c → AddsReachedBy i old new (violated_by n s t)
