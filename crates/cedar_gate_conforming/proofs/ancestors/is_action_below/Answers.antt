use Rattle.std.proofs.Common.{◌∙◌}
use Rattle.cedar_expr_names.specs.Views.{uid_of}
use Rattle.cedar_schema_entries.specs.Views.{action_seen}
use Rattle.cedar_schema_built.specs.Views.{schema_kept}
use Rattle.cedar_gate_conforming.proofs.Placed.{action_found, action_none}
use Rattle.cedar_gate_conforming.proofs.ancestors.is_action_below.Goals as goal

pub returns-in-Some : goal.returns-in-Some
returns-in-Some c = c.has_descendant.ensures ∙ action_found (schema_kept c.args.schema.now) (uid_of c.args.uid.now) (uid_of c.args.above.now) (action_seen c.in-Some.action.now) c.in-Some.ensures

pub returns-in-None : goal.returns-in-None
returns-in-None c = action_none (schema_kept c.args.schema.now) (uid_of c.args.uid.now) (uid_of c.args.above.now) c.in-None.ensures
