use Rattle.cedar_schema_builder.proofs.FaultsWritten.{faults_written}
use Rattle.cedar_schema_builder.proofs.FormLaws.{formed_built}
use Rattle.cedar_schema_builder.proofs.laws.formed_are_built.Goals as goal

pub returns-clause-built : goal.returns-clause-built
returns-clause-built c = formed_built c.resolved_fragments_are_written.ensures.at_once c.reserved_names_are_written.ensures.fault c.action_types_are_found.ensures c.resolved_declarations_tell_the_schema.ensures c.built_are_well_formed.ensures

pub returns-clause-faults : goal.returns-clause-faults
returns-clause-faults c =
    faults_written c.refusals_name_faults.ensures.refused c.refusals_name_faults.ensures.reserved c.refusals_name_faults.ensures.action_type c.written_are_declared.ensures.types c.written_are_declared.ensures.actions
    c.resolved_fragments_are_written.ensures.at_once c.names_are_declared.ensures.names c.names_are_declared.ensures.contexts
