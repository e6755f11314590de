use Rattle.std.proofs.Common.{Some, option_map, sym, ap, ◌∙◌}
use Rattle.cedar_typechecker_environments.specs.Signatures.{call_signature}
use Rattle.cedar_typechecker.specs.SchemaViews.{silent}
use Rattle.cedar_typechecker.proofs.Given.{same_call}
use Rattle.cedar_typechecker.proofs.typing.SchemaAndFunctionsTypingSchema.function.Goals as goal

pub returns : goal.returns
returns g c =
    ap Some (same_call _ _ (c.arg_types.ensures.types, (c.is_variadic.ensures, (c.is_single_arg_constructor.ensures, c.return_type.ensures)))) ∙ sym (ap (option_map call_signature) (c.in-Ok.ensures.found silent))

pub returns-in-Err-FuncDoesNotExist : goal.returns-in-Err-FuncDoesNotExist
returns-in-Err-FuncDoesNotExist g c =
    let refused = c.in-Err-FuncDoesNotExist.ensures.refused silent in
    let here = rw c.in-Err-FuncDoesNotExist.field-0-is at refused in
    sym (ap (option_map call_signature) here.0)
