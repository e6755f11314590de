use Rattle.cedar_schema_builder.proofs.NamesWritten.{names_are_written, reserved_found}
use Rattle.cedar_schema_builder.proofs.gathered_laws.reserved_names_are_written.Goals as goal

pub returns-clause-names : goal.returns-clause-names
returns-clause-names c = names_are_written

pub returns-clause-fault : goal.returns-clause-fault
returns-clause-fault c = reserved_found
