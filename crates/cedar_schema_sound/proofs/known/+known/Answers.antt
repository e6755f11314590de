use Rattle.std.proofs.Common.{ap, ◌∙◌}
use Rattle.cedar_schema_built.specs.Views.{schema_kept}
use Rattle.cedar_schema_sound.specs.Views.{names_known}
use Rattle.cedar_schema_sound.proofs.Searched.{attributes_start}
use Rattle.cedar_schema_sound.proofs.known.+known.Goals as goal

pub unknown_in_attributes-loop-name-init : goal.unknown_in_attributes-loop-name-init
unknown_in_attributes-loop-name-init t c =
    attributes_start (names_known c.args.extension_types.now) (schema_kept c.args.schema.now) c.args.attrs.now c.into_iter-name-iterator.result
    (c.into_iter-name-iterator.ensures.into_iter_gives ∙ c.iter-name-items.ensures.rest ∙ ap (λ m. m.entries) c.deref.ensures)
