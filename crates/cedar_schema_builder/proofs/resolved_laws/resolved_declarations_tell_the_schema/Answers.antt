use Rattle.cedar_schema_builder.proofs.ResolvedTold.{schema_is}
use Rattle.cedar_schema_builder.proofs.resolved_laws.resolved_declarations_tell_the_schema.Goals as goal

pub returns : goal.returns
returns c = schema_is c.names_mean_references.ensures c.solutions_are_the_common_types.ensures.types
