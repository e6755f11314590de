use Rattle.cedar_expr_model.proofs.Representing.{represented_result, represented_valid}
use Rattle.cedar_expr_model.proofs.laws.represented_values_are_right.Goals as goal

pub returns-clause-result : goal.returns-clause-result
returns-clause-result c = represented_result

pub returns-clause-calls : goal.returns-clause-calls
returns-clause-calls c = represented_valid
