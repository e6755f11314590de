use Rattle.cedar_schema_entries.specs.Views.{entity_type_seen}
use Rattle.cedar_schema_built.specs.Views.{schema_kept}
use Rattle.cedar_schema_sound.proofs.Closing.{type_kept}
use Rattle.cedar_schema_sound.proofs.closed_types.is_closed.Goals as goal

pub returns-in-Some-clause-closed : goal.returns-in-Some-clause-closed
returns-in-Some-clause-closed c =
    λ e after.
    c.is_closed_over.ensures.closed e
    (after (entity_type_seen c.in-Some.below.now) (type_kept (schema_kept c.args.schema.now) (entity_type_seen c.args.entity_type.now) (entity_type_seen c.in-Some.below.now) c.in-Some.ensures) c.in-Some.ensures.fewer)
