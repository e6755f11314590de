use Rattle.cedar_schema_sound.proofs.Passing.{not_refused}
use Rattle.cedar_schema_sound.proofs.laws.built_schemas_are_not_refused.Goals as goal

pub returns : goal.returns
returns c = λ x fs d w k b e r. not_refused c.sound_is_decided.ensures x k (c.kept_are_sound.ensures.sound x d k (b.are_well_formed d w) (b.keeps d w)) e r
