use Rattle.std.proofs.Common.{arith}
use Rattle.std.proofs.lemmas.Grind.{common_steps}
use Rattle.cedar_expr_functions.proofs.gathered.add_functions.Goals as goal

pub loop-f-preserved : goal.loop-f-preserved
loop-f-preserved c = grind (arith, common_steps)
