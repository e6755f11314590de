use Rattle.cedar_typechecker_model.proofs.Sound.Policies.{conforming, passing_is_sound}
use Rattle.cedar_typechecker_model.proofs.soundness.passing_policies_err_as_expected.Goals as goal

pub returns : goal.returns
returns c = λ s x w p o h whole bound conform passes. passing_is_sound s x w p (conforming s x w o h) bound conform whole passes
