use Rattle.std.proofs.Common.{◌≡◌, ◌++◌, map, take}
use Rattle.cedar_store_parts.specs.Parts.{id_text}
use Rattle.cedar_typechecker_levels.specs.Views.{violation_of}
use Rattle.cedar_typechecker_policies.specs.Violations.{reached_in, violation_told}
use Rattle.cedar_typechecker_policies.proofs.violations.add_violations.Given as goal

abbrev pub invariant-loop-violation : goal.invariant-loop-violation
invariant-loop-violation l = map violation_told l.found.items ≡ map violation_told l.initial.found.items ++ map (λ v. reached_in (id_text l.policy_id) (violation_of v)) (take l.violation-index l.violations)
