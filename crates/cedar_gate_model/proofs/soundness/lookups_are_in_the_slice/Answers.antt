use Rattle.cedar_gate_model.proofs.Gate.Reach.{accepted_in_reach}
use Rattle.cedar_gate_model.proofs.soundness.lookups_are_in_the_slice.Goals as goal

pub returns : goal.returns
returns c = λ b w p a f k u l. accepted_in_reach b w a f p k u l
