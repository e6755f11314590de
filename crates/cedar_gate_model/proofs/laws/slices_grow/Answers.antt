use Rattle.cedar_gate_model.proofs.Gate.Slices.{slice_is_empty, slice_grows, knowledge_keeps_the_slice, slice_is_local}
use Rattle.cedar_gate_model.proofs.laws.slices_grow.Goals as goal

pub returns-clause-empty : goal.returns-clause-empty
returns-clause-empty c = slice_is_empty

pub returns-clause-levels : goal.returns-clause-levels
returns-clause-levels c = slice_grows

pub returns-clause-knowledge : goal.returns-clause-knowledge
returns-clause-knowledge c = knowledge_keeps_the_slice

pub returns-clause-local : goal.returns-clause-local
returns-clause-local c = slice_is_local
