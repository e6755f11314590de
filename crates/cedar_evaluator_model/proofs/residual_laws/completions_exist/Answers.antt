use Rattle.cedar_evaluator_model.proofs.Completable.{completions_exist}
use Rattle.cedar_evaluator_model.proofs.residual_laws.completions_exist.Goals as goal

pub returns : goal.returns
returns c = completions_exist
