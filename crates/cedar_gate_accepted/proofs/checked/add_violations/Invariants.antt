use Rattle.std.proofs.Common.{◌≡◌, ◌++◌, map}
use Rattle.std.specs.Vec.Iter.{into_iter_items}
use Rattle.cedar_typechecker_policies.specs.Violations.{violation_told}
use Rattle.cedar_gate_accepted.proofs.checked.add_violations.Given as goal

abbrev pub invariant-loop-violation : goal.invariant-loop-violation
invariant-loop-violation l =
    map violation_told l.found.items ++ map violation_told (into_iter_items l.violation-iterator)
    ≡ map violation_told l.initial.found.items ++ map violation_told (into_iter_items l.initial.violation-iterator)
