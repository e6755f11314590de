use Rattle.cedar_evaluator_model.proofs.Completions.{completions_extend}
use Rattle.cedar_evaluator_model.proofs.laws.completions_extend_what_is_known.Goals as goal

pub returns : goal.returns
returns c = completions_extend
