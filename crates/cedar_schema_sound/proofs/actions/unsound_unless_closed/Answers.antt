use Rattle.std.proofs.Common.{sym}
use Rattle.cedar_expr_model.specs.Lists.{first_found}
use Rattle.cedar_schema_entries.specs.Views.{action_seen}
use Rattle.cedar_schema_built.specs.Views.{schema_kept}
use Rattle.cedar_schema_model.specs.Unsound.{action_below_fault}
use Rattle.cedar_schema_sound.proofs.Closing.{none_is}
use Rattle.cedar_schema_sound.proofs.actions.unsound_unless_closed.Goals as goal

pub returns-then-closed : goal.returns-then-closed
returns-then-closed c = sym (none_is (first_found (action_below_fault (schema_kept c.args.schema.now) (action_seen c.args.action.now)) (action_seen c.args.action.now).descendants) (c.requires c.if-closed.true))
