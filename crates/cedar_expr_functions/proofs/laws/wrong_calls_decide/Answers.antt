use Rattle.cedar_expr_functions.proofs.Wrong.{no_fault_decides}
use Rattle.cedar_expr_functions.proofs.laws.wrong_calls_decide.Goals as goal

pub returns : goal.returns
returns c = no_fault_decides
