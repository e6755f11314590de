use Rattle.cedar_expr_substitution.proofs.InTurn.{in_turn}
use Rattle.cedar_expr_substitution.proofs.laws.substituting_twice_is_once.Goals as goal

pub returns : goal.returns
returns c = in_turn
