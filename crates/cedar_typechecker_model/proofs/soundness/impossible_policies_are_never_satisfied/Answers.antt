use Rattle.cedar_typechecker_model.proofs.Sound.Policies.{conforming, impossible_is_sound}
use Rattle.cedar_typechecker_model.proofs.soundness.impossible_policies_are_never_satisfied.Goals as goal

pub returns : goal.returns
returns c = λ s x w p o h. impossible_is_sound s x w p (conforming s x w o h)
