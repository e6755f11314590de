use Rattle.cedar_schema_builder.proofs.Making.{fragments_written, one_by_one_written}
use Rattle.cedar_schema_builder.proofs.resolved_laws.resolved_fragments_are_written.Goals as goal

pub returns-clause-at_once : goal.returns-clause-at_once
returns-clause-at_once c = fragments_written c.written_are_declared.ensures.types c.written_are_declared.ensures.actions

pub returns-clause-one_by_one : goal.returns-clause-one_by_one
returns-clause-one_by_one c = one_by_one_written c.written_are_declared.ensures.types c.written_are_declared.ensures.actions
