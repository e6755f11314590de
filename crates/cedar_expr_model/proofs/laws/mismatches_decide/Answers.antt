use Rattle.cedar_expr_model.proofs.Mismatching.{all_fit}
use Rattle.cedar_expr_model.proofs.laws.mismatches_decide.Goals as goal

pub returns : goal.returns
returns c = all_fit
