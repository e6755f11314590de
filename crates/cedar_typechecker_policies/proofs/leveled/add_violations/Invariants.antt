use Rattle.std.proofs.Common.{◌≡◌, ◌++◌, map}
use Rattle.std.specs.Vec.Iter.{into_iter_items}
use Rattle.cedar_typechecker_policies.specs.Violations.{blame_told}
use Rattle.cedar_typechecker_scopes.specs.Faults.{blame_of}
use Rattle.cedar_typechecker_policies.proofs.leveled.add_violations.Given as goal

abbrev pub invariant-loop-violation : goal.invariant-loop-violation
invariant-loop-violation l =
    map blame_of l.errors.items ++ map blame_told (into_iter_items l.violation-iterator)
    ≡ map blame_of l.initial.errors.items ++ map blame_told (into_iter_items l.initial.violation-iterator)
