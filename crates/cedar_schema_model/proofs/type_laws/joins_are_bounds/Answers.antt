use Rattle.cedar_schema_model.proofs.Types.JoinSame.{join_ordered}
use Rattle.cedar_schema_model.proofs.Types.JoinAbove.{join_above}
use Rattle.cedar_schema_model.proofs.Types.JoinLeast.{least_bound}
use Rattle.cedar_schema_model.proofs.type_laws.joins_are_bounds.Goals as goal

pub returns-clause-ordered : goal.returns-clause-ordered
returns-clause-ordered c = join_ordered

pub returns-clause-above : goal.returns-clause-above
returns-clause-above c = join_above

pub returns-clause-least : goal.returns-clause-least
returns-clause-least c = least_bound
