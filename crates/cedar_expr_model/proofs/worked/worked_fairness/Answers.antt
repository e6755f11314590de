use Rattle.cedar_expr_model.proofs.Examples.{table_fair, table_unfair}
use Rattle.cedar_expr_model.proofs.worked.worked_fairness.Goals as goal

pub returns-clause-fair : goal.returns-clause-fair
returns-clause-fair c = table_fair

pub returns-clause-unfair : goal.returns-clause-unfair
returns-clause-unfair c = table_unfair
