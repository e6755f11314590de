use Rattle.cedar_gate_wanted.proofs.Rounds.{supply_is_round}
use Rattle.cedar_gate_wanted.proofs.laws.a_supply_is_a_round.Goals as goal

pub returns : goal.returns
returns c = supply_is_round
