use Rattle.cedar_schema_builder.proofs.Formed.{well_formed}
use Rattle.cedar_schema_builder.proofs.resolved_laws.built_are_well_formed.Goals as goal

pub returns : goal.returns
returns c =
    well_formed c.names_mean_references.ensures c.resolved_types_are_declared.ensures.refused c.solutions_are_the_common_types.ensures.types c.uses_are_declared.ensures
    c.contexts_become_records.ensures c.shadowing_is_declared.ensures c.resolved_declarations_tell_the_schema.ensures
