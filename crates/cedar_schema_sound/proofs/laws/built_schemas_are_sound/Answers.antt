use Rattle.cedar_schema_sound.proofs.laws.built_schemas_are_sound.Goals as goal

pub returns : goal.returns
returns c = λ x fs d w k b. (c.sound_is_decided.ensures x k).1 (c.kept_are_sound.ensures.sound x d k (b.are_well_formed d w) (b.keeps d w))
