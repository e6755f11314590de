use Rattle.cedar_gate_model.proofs.Gate.Printing.{one_status, one_answer, unreadable_alone, only_unreadable, refusals_are_faults}
use Rattle.cedar_gate_model.proofs.laws.printing_is_determined.Goals as goal

pub returns-clause-one_status : goal.returns-clause-one_status
returns-clause-one_status c = one_status

pub returns-clause-unreadable : goal.returns-clause-unreadable
returns-clause-unreadable c = unreadable_alone

pub returns-clause-no_other : goal.returns-clause-no_other
returns-clause-no_other c = only_unreadable

pub returns-clause-refusals : goal.returns-clause-refusals
returns-clause-refusals c = refusals_are_faults

pub returns-clause-one_answer : goal.returns-clause-one_answer
returns-clause-one_answer c = one_answer
