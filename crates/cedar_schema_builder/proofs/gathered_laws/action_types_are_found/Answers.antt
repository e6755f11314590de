use Rattle.cedar_schema_builder.proofs.ActionTypes.{action_types_found}
use Rattle.cedar_schema_builder.proofs.gathered_laws.action_types_are_found.Goals as goal

pub returns : goal.returns
returns c = action_types_found
