use Rattle.std.proofs.Common.{◌≡◌, ◌++◌}
use Rattle.std.specs.Vec.Iter.{into_iter_items}
use Rattle.cedar_typechecker_policies.proofs.findings.add_errors.Given as goal

abbrev pub invariant-loop-error : goal.invariant-loop-error
invariant-loop-error l = l.found.items ++ into_iter_items l.error-iterator ≡ l.initial.found.items ++ into_iter_items l.initial.error-iterator
