use Rattle.cedar_gate_wanted.proofs.Slicing.{next_round}
use Rattle.cedar_gate_wanted.proofs.laws.wanted_is_the_next_round.Goals as goal

pub returns : goal.returns
returns c = next_round
