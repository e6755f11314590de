use Rattle.std.proofs.Common.{◌≡◌, ◌++◌}
use Rattle.std.specs.Vec.Iter.{into_iter_items}
use Rattle.cedar_evaluator_restricted_exprs.proofs.value_parts.all_of.Given as goal

abbrev pub invariant-loop-item : goal.invariant-loop-item
invariant-loop-item g l = l.all.items ++ into_iter_items l.item-iterator ≡ into_iter_items l.fn.items
