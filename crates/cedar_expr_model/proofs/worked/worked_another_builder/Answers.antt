use Rattle.cedar_expr_model.proofs.Examples.{variables_lawful}
use Rattle.cedar_expr_model.proofs.worked.worked_another_builder.Goals as goal

pub returns-clause-lawful : goal.returns-clause-lawful
returns-clause-lawful c = variables_lawful
