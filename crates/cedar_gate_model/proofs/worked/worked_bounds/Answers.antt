use Rattle.cedar_gate_model.proofs.Gate.Computed.{both_bounds_hold, too_much, too_little}
use Rattle.cedar_gate_model.proofs.worked.worked_bounds.Goals as goal

pub returns-clause-both_hold : goal.returns-clause-both_hold
returns-clause-both_hold c = both_bounds_hold

pub returns-clause-too_much : goal.returns-clause-too_much
returns-clause-too_much c = too_much

pub returns-clause-too_little : goal.returns-clause-too_little
returns-clause-too_little c = too_little
