use Rattle.cedar_schema_model.proofs.Types.Reduction.{reduction_above, reduction_least, reduction_of_members}
use Rattle.cedar_schema_model.proofs.type_laws.reductions_are_bounds.Goals as goal

pub returns-clause-above : goal.returns-clause-above
returns-clause-above c = reduction_above

pub returns-clause-least : goal.returns-clause-least
returns-clause-least c = reduction_least

pub returns-clause-members : goal.returns-clause-members
returns-clause-members c = reduction_of_members
