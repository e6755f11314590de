use Rattle.cedar_schema_builder.proofs.NamingAll.{refusal_named, reserved_there, action_type_there}
use Rattle.cedar_schema_builder.proofs.gathered_laws.refusals_name_faults.Goals as goal

pub returns-clause-refused : goal.returns-clause-refused
returns-clause-refused c fs d w s has r h = refusal_named c.names_mean_references.ensures c.resolved_types_are_declared.ensures.refused s d (c.written_are_declared.ensures.types fs d w s has) (c.written_are_declared.ensures.actions fs d w s has) fs w r h

pub returns-clause-reserved : goal.returns-clause-reserved
returns-clause-reserved c fs d w n h = reserved_there fs d w n h

pub returns-clause-action_type : goal.returns-clause-action_type
returns-clause-action_type c fs d w n h = action_type_there fs d w n h
