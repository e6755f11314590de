use Rattle.cedar_schema_model.proofs.Deciding.{sound-Decides}
use Rattle.cedar_schema_model.proofs.sound_laws.sound_is_decided.Goals as goal

pub returns : goal.returns
returns c = sound-Decides
