use Rattle.cedar_schema_builder.proofs.Building.{built}
use Rattle.cedar_schema_builder.proofs.laws.steps_build_the_schema.Goals as goal

pub returns : goal.returns
returns c = built c.resolved_declarations_tell_the_schema.ensures c.built_are_well_formed.ensures
