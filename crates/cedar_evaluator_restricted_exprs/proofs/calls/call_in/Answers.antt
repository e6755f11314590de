use Rattle.std.proofs.Common.{map, ap, sym, subst, ◌∙◌}
use Rattle.std.specs.Option.{option_map_or}
use Rattle.cedar_expr_names.specs.Views.{plain_name_of}
use Rattle.cedar_expr_model.specs.Table.{signature_of}
use Rattle.cedar_expr_values.specs.Extensions.{extension_of}
use Rattle.cedar_expr_values.specs.Values.{made}
use Rattle.cedar_store_model.specs.Outcome.{no_function}
use Rattle.cedar_evaluator_model.specs.Steps.{errs, call_left}
use Rattle.cedar_evaluator_model.specs.Functions.{with_functions}
use Rattle.cedar_evaluator_restricted_exprs.specs.Lefts.{Leaves, is_stopped}
use Rattle.cedar_evaluator_errors.proofs.Called.{found_made}
use Rattle.cedar_evaluator_restricted_exprs.proofs.calls.call_in.Goals as goal

pub returns-in-Ok : goal.returns-in-Ok
returns-in-Ok g c = λ x answers is h.
    let n = plain_name_of c.args.name.now in
    let ms = map (made extension_of) c.args.args.now in
    let found = ap (λ t. signature_of t n) is ∙ c.in-Ok.ensures.found answers in
    subst (λ o. Leaves (option_map_or (call_left (with_functions x) n ms) o (errs no_function)) c.ask.result) (sym found) (c.ask.ensures (with_functions x) n (found_made h c.in-Ok.ensures.named))

pub returns-in-Err-FuncDoesNotExist : goal.returns-in-Err-FuncDoesNotExist
returns-in-Err-FuncDoesNotExist g c = λ x answers is h q.
    let n = plain_name_of c.args.name.now in
    let ms = map (made extension_of) c.args.args.now in
    let refused = rw c.in-Err-FuncDoesNotExist.field-0-is at c.in-Err-FuncDoesNotExist.ensures.refused answers in
    ap (λ o. is_stopped (option_map_or (call_left (with_functions x) n ms) o (errs no_function))) (ap (λ t. signature_of t n) is ∙ refused.0)
