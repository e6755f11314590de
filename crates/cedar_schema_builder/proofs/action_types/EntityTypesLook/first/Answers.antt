use Rattle.std.proofs.Common.{◌∙◌}
use Rattle.cedar_expr_names.specs.Views.{name_of}
use Rattle.cedar_schema_builder.proofs.ActionTypes.{other_word}
use Rattle.cedar_schema_builder.proofs.action_types.EntityTypesLook.first.Goals as goal

pub returns-else-eq : goal.returns-else-eq
returns-else-eq c = other_word c.as_str.result.now (name_of c.args.part.now.0) (c.as_str.ensures.value ∙ c.basename.ensures) c.if-eq.ensures
