use Rattle.cedar_schema_builder.proofs.Told.{refusal_tells, made_means}
use Rattle.cedar_schema_builder.proofs.gathered_laws.resolving_tells_faults.Goals as goal

pub returns-clause-refused : goal.returns-clause-refused
returns-clause-refused c fs d w s has x r h = refusal_tells c.names_mean_references.ensures c.resolved_types_are_declared.ensures.refused s d (c.written_are_declared.ensures.types fs d w s has) (c.written_are_declared.ensures.actions fs d w s has) fs w x r h

pub returns-clause-made : goal.returns-clause-made
returns-clause-made c fs d w s has x gs h = made_means c.names_mean_references.ensures c.resolved_types_are_declared.ensures.refused s d (c.written_are_declared.ensures.types fs d w s has) (c.written_are_declared.ensures.actions fs d w s has) fs w x gs h
