use Rattle.cedar_evaluator_model.proofs.Again.{again_leaves_none, again_answers}
use Rattle.cedar_evaluator_model.proofs.laws.reauthorizing_decides.Goals as goal

pub returns-clause-no_residual : goal.returns-clause-no_residual
returns-clause-no_residual c = again_leaves_none

pub returns-clause-answer : goal.returns-clause-answer
returns-clause-answer c = again_answers
