use Rattle.cedar_evaluator_model.proofs.NoLimits.{no_limit}
use Rattle.cedar_evaluator_model.proofs.laws.no_limit_is_met.Goals as goal

pub returns : goal.returns
returns c = no_limit
