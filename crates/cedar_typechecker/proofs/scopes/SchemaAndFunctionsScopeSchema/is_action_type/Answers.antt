use Rattle.std.proofs.Common.{◌∙◌}
use Rattle.cedar_expr_names.specs.Views.{type_name_of}
use Rattle.cedar_schema_built.specs.Views.{schema_kept}
use Rattle.cedar_typechecker_model.proofs.Seen.Asked.{kind_asked}
use Rattle.cedar_typechecker.proofs.scopes.SchemaAndFunctionsScopeSchema.is_action_type.Goals as goal

pub returns : goal.returns
returns g c = let s = c.args.self.now in c.contains.ensures ∙ s.typed.types c.args.ty.now ∙ kind_asked (schema_kept s.schema.now) (type_name_of c.args.ty.now)
