use Rattle.cedar_evaluator_model.proofs.Exact as exactly
use Rattle.cedar_evaluator_model.proofs.laws.typed_tables_leave_nothing.Goals as goal

pub returns : goal.returns
returns c = exactly.typed_tables_leave_nothing
