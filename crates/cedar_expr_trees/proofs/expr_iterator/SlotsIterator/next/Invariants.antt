use Rattle.std.proofs.Common.{◌≡◌, length}
use Rattle.cedar_expr_trees.specs.Positions.{exprs_left, slots_left}
use Rattle.cedar_expr_trees.proofs.expr_iterator.SlotsIterator.next.Given as goal

abbrev pub invariant-loop-e : goal.invariant-loop-e
invariant-loop-e g l = slots_left l.initial.self ≡ slots_left l.self

abbrev pub decreases-loop-e : goal.decreases-loop-e
decreases-loop-e g l = length (exprs_left l.self.exprs)
