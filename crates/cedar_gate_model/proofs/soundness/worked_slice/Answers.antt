use Rattle.cedar_gate_model.proofs.Gate.ReachWorked.{level_two_accepted, level_two_fit, owner_looked_up}
use Rattle.cedar_gate_model.proofs.soundness.worked_slice.Goals as goal

pub returns-clause-accepted : goal.returns-clause-accepted
returns-clause-accepted c = level_two_accepted

pub returns-clause-fit : goal.returns-clause-fit
returns-clause-fit c = level_two_fit

pub returns-clause-looked_up : goal.returns-clause-looked_up
returns-clause-looked_up c = owner_looked_up
