use Rattle.cedar_gate_model.proofs.Reading.Slots.{read_is_built, read_slots_are_written}
use Rattle.cedar_gate_model.proofs.reading_laws.expressions_are_read_as_built.Goals as goal

pub returns-clause-form : goal.returns-clause-form
returns-clause-form c = read_is_built

pub returns-clause-slots : goal.returns-clause-slots
returns-clause-slots c = read_slots_are_written
