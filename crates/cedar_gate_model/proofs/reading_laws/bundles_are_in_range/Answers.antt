use Rattle.cedar_gate_model.proofs.Reading.Bundles.{numbers_in_range, table_is_given, lacking_steps_are_none}
use Rattle.cedar_gate_model.proofs.reading_laws.bundles_are_in_range.Goals as goal

pub returns-clause-numbers : goal.returns-clause-numbers
returns-clause-numbers c = numbers_in_range

pub returns-clause-table : goal.returns-clause-table
returns-clause-table c = table_is_given

pub returns-clause-steps : goal.returns-clause-steps
returns-clause-steps c = lacking_steps_are_none
