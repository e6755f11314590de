use Rattle.std.proofs.lemmas.Grind.{common_steps}
use Rattle.std.proofs.Common.{arith}
use Rattle.cedar_expr_partial.proofs.partial_value.exprs_of.Goals as goal

pub loop-item-preserved : goal.loop-item-preserved
loop-item-preserved g c = grind (arith, common_steps)
