use Rattle.cedar_schema_builder.specs.Extensions.{types_given}
use Rattle.cedar_schema_built.specs.Views.{schema_kept}
use Rattle.cedar_schema_sound.specs.Views.{names_known}
use Rattle.cedar_schema_sound.proofs.MoreKnown.{sound_known}
use Rattle.cedar_schema_sound.proofs.table.ValidatorSchemaTryValidate.try_validate.Goals as goal

pub returns-in-Ok-clause-sound : goal.returns-in-Ok-clause-sound
returns-in-Ok-clause-sound g c =
    let x = names_known c.in_ok-types.types in
    let k = schema_kept c.in-Ok.schema in
    sound_known x (types_given c.args.extensions.now) c.in_ok-types.ensures.only k ((c.sound_is_decided.ensures x k).0 c.in-Ok.ensures.sound)

pub returns-clause-refused : goal.returns-clause-refused
returns-clause-refused g c = λ f h. (names_known c.in_ok-types.types, c.in_ok-types.ensures, c.in-Err.ensures.refused f h)
