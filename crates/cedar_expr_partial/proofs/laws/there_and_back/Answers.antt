use Rattle.cedar_expr_partial.proofs.Parted.{back_again}
use Rattle.cedar_expr_partial.proofs.laws.there_and_back.Goals as goal

pub returns : goal.returns
returns c = back_again
