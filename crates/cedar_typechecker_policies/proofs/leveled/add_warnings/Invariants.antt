use Rattle.std.proofs.Common.{◌≡◌, ◌++◌}
use Rattle.std.specs.Vec.Iter.{into_iter_items}
use Rattle.cedar_typechecker_policies.proofs.leveled.add_warnings.Given as goal

abbrev pub invariant-loop-warning : goal.invariant-loop-warning
invariant-loop-warning l = l.found.items ++ into_iter_items l.warning-iterator ≡ l.initial.found.items ++ into_iter_items l.initial.warning-iterator
