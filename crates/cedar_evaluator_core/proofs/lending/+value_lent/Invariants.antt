use Rattle.cedar_evaluator_core.specs.Lent.{lent_made}
use Rattle.cedar_evaluator_core.proofs.Among.{AmongSoFar}
use Rattle.cedar_evaluator_core.proofs.lending.+value_lent.Given as goal

abbrev pub decreases-among : goal.decreases-among
decreases-among g l = l.limit

abbrev pub decreases-value_lent : goal.decreases-value_lent
decreases-value_lent g l = l.limit

-- the members until then are lent, and `found` is whether one of them was it
abbrev pub invariant-among-loop-member : goal.invariant-among-loop-member
invariant-among-loop-member g l = AmongSoFar g.T.FunctionTable.table l.known l.limit l.members (lent_made l.of) l.member-index l.found
