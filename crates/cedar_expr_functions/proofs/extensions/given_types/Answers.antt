use Rattle.std.proofs.Common.{arith}
use Rattle.std.proofs.lemmas.Grind.{common_steps}
use Rattle.cedar_expr_functions.proofs.extensions.given_types.Goals as goal

pub loop-f-preserved : goal.loop-f-preserved
loop-f-preserved c = grind (arith, common_steps)

pub returns : goal.returns
returns c = grind (arith, common_steps)
