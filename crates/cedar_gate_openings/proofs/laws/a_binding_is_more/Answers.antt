use Rattle.cedar_gate_openings.proofs.States.{binding_more}
use Rattle.cedar_gate_openings.proofs.laws.a_binding_is_more.Goals as goal

pub returns : goal.returns
returns c = binding_more
