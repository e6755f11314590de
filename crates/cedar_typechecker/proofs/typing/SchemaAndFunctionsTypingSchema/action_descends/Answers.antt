use Rattle.std.proofs.Common.{◌∙◌}
use Rattle.cedar_expr_names.specs.Views.{uid_of}
use Rattle.cedar_schema_entries.specs.Views.{action_seen}
use Rattle.cedar_schema_built.specs.Views.{schema_kept}
use Rattle.cedar_typechecker_model.proofs.Seen.Told.{action_below_found, action_below_none}
use Rattle.cedar_typechecker_model.proofs.Seen.Tests.{tests_closed}
use Rattle.cedar_typechecker.proofs.typing.SchemaAndFunctionsTypingSchema.action_descends.Goals as goal

pub returns-in-Some : goal.returns-in-Some
returns-in-Some g c =
    let s = c.args.self.now in
    c.has_descendant.ensures ∙ action_below_found (schema_kept s.schema.now) (tests_closed (schema_kept s.schema.now) s.closed) s.once (uid_of c.args.uid.now) (uid_of c.args.above.now) (action_seen c.in-Some.action.now) c.in-Some.ensures

pub returns-in-None : goal.returns-in-None
returns-in-None g c =
    let s = c.args.self.now in
    action_below_none (schema_kept s.schema.now) (tests_closed (schema_kept s.schema.now) s.closed) s.once (uid_of c.args.uid.now) (uid_of c.args.above.now) c.in-None.ensures
