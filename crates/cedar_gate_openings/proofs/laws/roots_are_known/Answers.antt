use Rattle.cedar_gate_openings.proofs.States.{roots_known}
use Rattle.cedar_gate_openings.proofs.laws.roots_are_known.Goals as goal

pub returns : goal.returns
returns c = roots_known
