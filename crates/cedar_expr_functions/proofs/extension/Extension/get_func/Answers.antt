use Rattle.std.proofs.Common.{arith}
use Rattle.std.proofs.lemmas.Grind.{common_steps}
use Rattle.cedar_expr_functions.proofs.extension.Extension.get_func.Goals as goal

pub returns : goal.returns
returns c = grind (arith, common_steps)
