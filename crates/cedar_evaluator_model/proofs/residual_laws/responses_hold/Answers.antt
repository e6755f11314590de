use Rattle.cedar_evaluator_model.proofs.Residuals.Policies.{verdicts_hold}
use Rattle.cedar_evaluator_model.proofs.Residuals.Decisions.{given, bounds_hold}
use Rattle.cedar_evaluator_model.proofs.residual_laws.responses_hold.Goals as goal

pub returns-clause-verdicts : goal.returns-clause-verdicts
returns-clause-verdicts c = verdicts_hold

pub returns-clause-decision : goal.returns-clause-decision
returns-clause-decision c = given

pub returns-clause-bounds : goal.returns-clause-bounds
returns-clause-bounds c = bounds_hold
