use Rattle.cedar_evaluator_model.proofs.Responses.{answers, decisions, no_residuals}
use Rattle.cedar_evaluator_model.proofs.Limits.{none_met}
use Rattle.cedar_evaluator_model.proofs.laws.the_response_is_the_answer.Goals as goal

pub returns-clause-answer : goal.returns-clause-answer
returns-clause-answer c = answers

pub returns-clause-decision : goal.returns-clause-decision
returns-clause-decision c = decisions

pub returns-clause-no_residual : goal.returns-clause-no_residual
returns-clause-no_residual c = no_residuals

pub returns-clause-limit : goal.returns-clause-limit
returns-clause-limit c = none_met
