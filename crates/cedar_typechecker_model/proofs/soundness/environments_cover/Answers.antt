use Rattle.cedar_typechecker_model.proofs.Sound.Policies.{conforming, environments_cover}
use Rattle.cedar_typechecker_model.proofs.soundness.environments_cover.Goals as goal

pub returns : goal.returns
returns c = λ s x w p o h. environments_cover s x w p (conforming s x w o h)
