use Rattle.cedar_schema_builder.proofs.ResolvedFaults.{wrong_is_fault, context_is_fault, untold_is_fault}
use Rattle.cedar_schema_builder.proofs.resolved_laws.refused_are_faults.Goals as goal

pub returns-clause-wrong : goal.returns-clause-wrong
returns-clause-wrong c = λ s d cs es as_ w. wrong_is_fault c.names_mean_references.ensures c.resolved_types_are_declared.ensures.refused s d cs es as_ w c.shadowing_is_declared.ensures

pub returns-clause-contexts : goal.returns-clause-contexts
returns-clause-contexts c = context_is_fault c.names_mean_references.ensures c.resolved_types_are_declared.ensures.refused c.solutions_are_the_common_types.ensures.types c.contexts_become_records.ensures

pub returns-clause-untold : goal.returns-clause-untold
returns-clause-untold c = λ s d cs es as_ w t i r u f e. untold_is_fault c.names_mean_references.ensures c.resolved_types_are_declared.ensures.refused s d cs es as_ w c.refusals_are_faults.ensures.types r f e t i u
