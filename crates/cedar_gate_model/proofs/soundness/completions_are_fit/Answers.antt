use Rattle.cedar_gate_model.proofs.Gate.Reach.{completions_fit}
use Rattle.cedar_gate_model.proofs.soundness.completions_are_fit.Goals as goal

pub returns : goal.returns
returns c = completions_fit
