use Rattle.std.proofs.Common.{◌||◌, ap, ◌∙◌}
use Rattle.cedar_expr_names.specs.Views.{type_name_of}
use Rattle.cedar_schema_built.specs.Views.{schema_kept}
use Rattle.cedar_typechecker_model.specs.Asked.{type_is_below}
use Rattle.cedar_typechecker_model.proofs.Seen.Told.{descends_either}
use Rattle.cedar_typechecker_model.proofs.Seen.Tests.{tests_closed}
use Rattle.cedar_typechecker.proofs.typing.SchemaAndFunctionsTypingSchema.type_descends.Goals as goal

pub returns : goal.returns
returns g c =
    let s = c.args.self.now in
    let k = schema_kept s.schema.now in
    let m = type_name_of c.args.ty.now in
    let n = type_name_of c.args.above.now in
    c.is_type_below.ensures ∙ ap (λ b. type_is_below k m n || b) (s.typed.pairs c.args.ty.now c.args.above.now) ∙ descends_either k (tests_closed (schema_kept s.schema.now) s.closed) s.once m n
