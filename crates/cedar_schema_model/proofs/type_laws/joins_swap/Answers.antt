use Rattle.cedar_schema_model.proofs.Types.JoinSame.{join_swaps}
use Rattle.cedar_schema_model.proofs.type_laws.joins_swap.Goals as goal

pub returns : goal.returns
returns c = join_swaps
