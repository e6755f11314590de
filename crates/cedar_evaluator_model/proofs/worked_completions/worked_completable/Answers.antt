use Rattle.cedar_evaluator_model.proofs.CompletableWorked.{some_loaded_is_completed}
use Rattle.cedar_evaluator_model.proofs.worked_completions.worked_completable.Goals as goal

pub returns-clause-there : goal.returns-clause-there
returns-clause-there c = some_loaded_is_completed
