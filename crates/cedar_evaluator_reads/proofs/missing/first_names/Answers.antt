use Rattle.std.proofs.Common.{arith}
use Rattle.cedar_evaluator_reads.proofs.Five.{texts, five, fewer}
use Rattle.cedar_evaluator_reads.proofs.missing.first_names.Goals as goal

pub returns-then-len-eq5 : goal.returns-then-len-eq5
returns-then-len-eq5 g c = five (texts c.args.names) c.loop-name.first.items c.loop-name.name-iterator c.loop-name.invariant.names (omega arith)

pub returns : goal.returns
returns g c = fewer (texts c.args.names) c.loop-name.first.items c.loop-name.name-iterator c.loop-name.invariant.names c.in-None.ensures.steps.0 c.loop-name.invariant.few
