use Rattle.cedar_expr_model.proofs.Patterns.{matches-Decides}
use Rattle.cedar_expr_model.proofs.laws.patterns_decide.Goals as goal

pub returns : goal.returns
returns c = matches-Decides
