use Rattle.cedar_typechecker_model.proofs.Sound.Policies.{types_are_sound}
use Rattle.cedar_typechecker_model.proofs.soundness.types_are_sound.Goals as goal

pub returns : goal.returns
returns c = types_are_sound
