use Rattle.cedar_evaluator_model.proofs.Residuals.Kept.{keeps_satisfied}
use Rattle.cedar_evaluator_model.proofs.residual_laws.responses_keep_satisfaction.Goals as goal

pub returns : goal.returns
returns c = keeps_satisfied
