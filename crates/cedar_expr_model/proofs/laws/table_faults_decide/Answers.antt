use Rattle.cedar_expr_model.proofs.Repeating.{table_fault_decides, function_fault, constructor_fault}
use Rattle.cedar_expr_model.proofs.laws.table_faults_decide.Goals as goal

pub returns-clause-none : goal.returns-clause-none
returns-clause-none c = table_fault_decides

pub returns-clause-function : goal.returns-clause-function
returns-clause-function c = function_fault

pub returns-clause-constructor : goal.returns-clause-constructor
returns-clause-constructor c = constructor_fault
