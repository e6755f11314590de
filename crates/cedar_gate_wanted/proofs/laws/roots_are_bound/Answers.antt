use Rattle.cedar_gate_wanted.proofs.Rounds.{roots_bound}
use Rattle.cedar_gate_wanted.proofs.laws.roots_are_bound.Goals as goal

pub returns : goal.returns
returns c = roots_bound
