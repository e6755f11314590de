use Rattle.std.proofs.Common.{map, ap, sym, subst}
use Rattle.std.specs.Option.{option_map_or}
use Rattle.cedar_expr_names.specs.Views.{plain_name_of}
use Rattle.cedar_expr_values.specs.Extensions.{extension_of}
use Rattle.cedar_expr_values.specs.Values.{made}
use Rattle.cedar_store_model.specs.Outcome.{no_function}
use Rattle.cedar_evaluator_model.specs.Steps.{errs}
use Rattle.cedar_evaluator_errors.specs.Outcomes.{Leaves}
use Rattle.cedar_evaluator_errors.specs.Calls.{call_by}
use Rattle.cedar_evaluator_errors.proofs.Called.{found_made}
use Rattle.cedar_evaluator_operators.proofs.calls.ExtensionsFunctionTable.call.Goals as goal

pub returns-in-Ok : goal.returns-in-Ok
returns-in-Ok g c = λ answers calls h.
    let n = plain_name_of c.args.name.now in
    let ms = map (made extension_of) c.args.args.now in
    subst (λ o. Leaves (option_map_or (call_by calls n ms) o (errs no_function)) c.ask.result) (sym (c.in-Ok.ensures.found answers)) (c.ask.ensures calls n (found_made h c.in-Ok.ensures.named))

pub returns-in-Err-FuncDoesNotExist : goal.returns-in-Err-FuncDoesNotExist
returns-in-Err-FuncDoesNotExist g c = λ answers calls h other m.
    let refused = c.in-Err-FuncDoesNotExist.ensures.refused answers in
    let here = rw c.in-Err-FuncDoesNotExist.field-0-is at refused in
    ap (λ o. option_map_or (call_by calls (plain_name_of c.args.name.now) (map (made extension_of) c.args.args.now)) o (errs no_function)) here.0
