use Rattle.std.proofs.Common.{sym}
use Rattle.cedar_expr_model.specs.Lists.{first_found}
use Rattle.cedar_schema_entries.specs.Views.{entity_type_seen}
use Rattle.cedar_schema_built.specs.Views.{schema_kept}
use Rattle.cedar_schema_model.specs.Unsound.{type_below_fault}
use Rattle.cedar_schema_sound.proofs.Closing.{none_is}
use Rattle.cedar_schema_sound.proofs.entity_types.unsound_unless_closed.Goals as goal

pub returns-then-closed : goal.returns-then-closed
returns-then-closed c = sym (none_is (first_found (type_below_fault (schema_kept c.args.schema.now) (entity_type_seen c.args.entity_type.now)) (entity_type_seen c.args.entity_type.now).descendants) (c.requires c.if-closed.true))
