use Rattle.cedar_expr_model.proofs.Examples.{rank_represented, feigned_not}
use Rattle.cedar_expr_model.proofs.worked.worked_represented.Goals as goal

pub returns-clause-rank : goal.returns-clause-rank
returns-clause-rank c = rank_represented

pub returns-clause-other_key : goal.returns-clause-other_key
returns-clause-other_key c = feigned_not
