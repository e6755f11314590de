use Rattle.cedar_expr_model.proofs.Restricting.{written_restricted}
use Rattle.cedar_expr_model.proofs.Substituting.{written_known}
use Rattle.cedar_expr_model.proofs.Building.{written_built}
use Rattle.cedar_expr_model.proofs.CoreTypes.{shown_type}
use Rattle.cedar_expr_model.proofs.Valued.{written_is_value}
use Rattle.cedar_expr_model.proofs.laws.written_values_are_plain.Goals as goal

pub returns-clause-restricted : goal.returns-clause-restricted
returns-clause-restricted c = written_restricted

pub returns-clause-known : goal.returns-clause-known
returns-clause-known c = written_known

pub returns-clause-form : goal.returns-clause-form
returns-clause-form c = written_built

pub returns-clause-shown : goal.returns-clause-shown
returns-clause-shown c = shown_type

pub returns-clause-value : goal.returns-clause-value
returns-clause-value c = written_is_value
