use Rattle.std.proofs.Common.{◌≡◌, length}
use Rattle.cedar_expr_trees.specs.Positions.{exprs_left, unknowns_left}
use Rattle.cedar_expr_trees.proofs.expr_iterator.UnknownsIterator.next.Given as goal

abbrev pub invariant-loop-e : goal.invariant-loop-e
invariant-loop-e g l = unknowns_left l.initial.self ≡ unknowns_left l.self

abbrev pub decreases-loop-e : goal.decreases-loop-e
decreases-loop-e g l = length (exprs_left l.self.exprs)
