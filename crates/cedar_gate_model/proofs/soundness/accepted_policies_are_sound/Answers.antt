use Rattle.cedar_gate_model.proofs.Gate.Reach.{accepted_are_sound}
use Rattle.cedar_gate_model.proofs.soundness.accepted_policies_are_sound.Goals as goal

pub returns : goal.returns
returns c = λ b w p a f k. accepted_are_sound b w a f p k
