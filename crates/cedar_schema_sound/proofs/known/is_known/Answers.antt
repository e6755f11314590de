use Rattle.std.proofs.Common.{◌∙◌}
use Rattle.cedar_schema_sound.proofs.Among.{name_among}
use Rattle.cedar_schema_sound.proofs.known.is_known.Goals as goal

pub returns : goal.returns
returns c = c.contains.ensures ∙ name_among c.args.name.now c.args.extension_types.now.keys
