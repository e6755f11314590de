use Rattle.std.proofs.Common.{◌∙◌}
use Rattle.std.specs.Borrow.{Bor}
use Rattle.cedar_expr_names.specs.Views.{uid_of}
use Rattle.cedar_schema_entries.specs.Views.{action_seen}
use Rattle.cedar_schema_built.specs.Views.{schema_kept}
use Rattle.cedar_schema_entries.specs.declared.action.ValidatorActionId.{ValidatorActionId}
use Rattle.cedar_typechecker_model.proofs.Seen.Told.{action_there}
use Rattle.cedar_typechecker.proofs.typing.SchemaAndFunctionsTypingSchema.declares_action.Goals as goal

pub returns : goal.returns
returns g c = c.is_some.ensures ∙ action_there (schema_kept c.args.self.now.schema.now) (uid_of c.args.uid.now) (λ (a : Bor ValidatorActionId). action_seen a.now) c.get_action_id.result c.get_action_id.ensures
