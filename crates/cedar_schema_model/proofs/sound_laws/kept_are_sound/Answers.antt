use Rattle.cedar_schema_model.proofs.Keeping.{kept_sound, kept_faultless}
use Rattle.cedar_schema_model.proofs.sound_laws.kept_are_sound.Goals as goal

pub returns-clause-sound : goal.returns-clause-sound
returns-clause-sound c = kept_sound

pub returns-clause-faultless : goal.returns-clause-faultless
returns-clause-faultless c = kept_faultless
