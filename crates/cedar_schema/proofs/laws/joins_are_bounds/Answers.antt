use Rattle.cedar_schema_model.proofs.Types.JoinAbove.{join_above}
use Rattle.cedar_schema_model.proofs.Types.JoinLeast.{least_bound}
use Rattle.cedar_schema_model.proofs.Types.JoinSame.{join_swaps}
use Rattle.cedar_schema_types.specs.Types.{type_of}
use Rattle.cedar_schema_joins.specs.Modes.{mode_of}
use Rattle.cedar_schema.proofs.laws.joins_are_bounds.Goals as goal

pub returns-clause-above : goal.returns-clause-above
returns-clause-above c = λ m a b j. join_above (mode_of m) (type_of a) (type_of b) (type_of j)

pub returns-clause-least : goal.returns-clause-least
returns-clause-least c = λ m a b j t. least_bound (mode_of m) (type_of a) (type_of b) (type_of j) (type_of t)

pub returns-clause-swaps : goal.returns-clause-swaps
returns-clause-swaps c = λ m a b. join_swaps (mode_of m) (type_of a) (type_of b)
