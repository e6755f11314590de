use Rattle.std.proofs.Common.{arith}
use Rattle.std.proofs.lemmas.Grind.{common_steps}
use Rattle.cedar_gate_wanted.proofs.next.copied.Goals as goal

pub loop-uid-preserved : goal.loop-uid-preserved
loop-uid-preserved c = grind (arith, common_steps)

pub returns : goal.returns
returns c = grind (arith, common_steps)
