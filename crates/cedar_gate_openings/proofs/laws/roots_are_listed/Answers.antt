use Rattle.cedar_gate_openings.proofs.States.{roots_listed}
use Rattle.cedar_gate_openings.proofs.laws.roots_are_listed.Goals as goal

pub returns : goal.returns
returns c = roots_listed
