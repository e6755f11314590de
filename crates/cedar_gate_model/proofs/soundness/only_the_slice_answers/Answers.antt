use Rattle.cedar_gate_model.proofs.Gate.Reach.{only_the_slice_answers}
use Rattle.cedar_gate_model.proofs.soundness.only_the_slice_answers.Goals as goal

pub returns : goal.returns
returns c = λ b w store a f same. only_the_slice_answers b w a f store same
