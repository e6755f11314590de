use Rattle.cedar_evaluator_model.proofs.Residuals.Node as stood
use Rattle.cedar_evaluator_model.proofs.residual_laws.residuals_stand.Goals as goal

pub returns-clause-stand : goal.returns-clause-stand
returns-clause-stand c = stood.residuals_stand

pub returns-clause-fit : goal.returns-clause-fit
returns-clause-fit c = stood.residuals_fit
