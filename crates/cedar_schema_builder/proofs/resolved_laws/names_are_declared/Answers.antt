use Rattle.cedar_schema_builder.proofs.ResolvedFaults.{context_is_named}
use Rattle.cedar_schema_builder.proofs.ResolvedNames.{are_names}
use Rattle.cedar_schema_builder.proofs.resolved_laws.names_are_declared.Goals as goal

pub returns-clause-names : goal.returns-clause-names
returns-clause-names c = are_names c.names_mean_references.ensures c.resolved_types_are_declared.ensures.refused c.uses_are_declared.ensures c.refusals_are_faults.ensures.types

pub returns-clause-contexts : goal.returns-clause-contexts
returns-clause-contexts c = context_is_named c.names_mean_references.ensures c.resolved_types_are_declared.ensures.refused c.solutions_are_the_common_types.ensures.types c.contexts_become_records.ensures
