use Rattle.cedar_gate_model.proofs.Reading.Values.{values_are_restricted, open_contexts_have_unknowns}
use Rattle.cedar_gate_model.proofs.reading_laws.values_are_read_of_restricted_expressions.Goals as goal

pub returns-clause-values : goal.returns-clause-values
returns-clause-values c = values_are_restricted

pub returns-clause-contexts : goal.returns-clause-contexts
returns-clause-contexts c = open_contexts_have_unknowns
