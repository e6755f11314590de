use Rattle.std.proofs.Common.{sym, ap, ◌∙◌, subst}
use Rattle.cedar_expr_values.specs.Types.{core_of}
use Rattle.cedar_expr_functions.specs.Functions.{function_signature}
use Rattle.cedar_evaluator_errors.specs.Outcomes.{Leaves}
use Rattle.cedar_evaluator_model.specs.Steps.{answer_left}
use Rattle.cedar_evaluator_errors.proofs.Called.{taken, mistyped}
use Rattle.cedar_evaluator_operators.proofs.calls.ask.Goals as goal

pub returns-in-Ok-Known : goal.returns-in-Ok-Known
returns-in-Ok-Known g c = λ calls n h.
    let agreed = h.agreeing _ _ _ c.in-Ok-Known.ensures.taken c.in-Ok-Known.ensures.asked in
    let here = rw c.in-Ok-Known.field-0-is at agreed in
    let told = c.known_value.ensures in
    let said = rw c.in-Ok-Known.field-0-is at told in
    subst (λ l. Leaves l c.known_value.result) (sym (taken calls n c.args.args.now (function_signature c.args.f.now) c.in-Ok-Known.ensures.taken ∙ ap answer_left here)) said

pub returns-in-Ok-Unknown : goal.returns-in-Ok-Unknown
returns-in-Ok-Unknown g c = λ calls n h.
    let agreed = h.agreeing _ _ _ c.in-Ok-Unknown.ensures.taken c.in-Ok-Unknown.ensures.asked in
    let here = rw c.in-Ok-Unknown.field-0-is at agreed in
    let told = c.open_value.ensures in
    let said = rw c.in-Ok-Unknown.field-0-is at told in
    subst (λ l. Leaves l c.open_value.result) (sym (taken calls n c.args.args.now (function_signature c.args.f.now) c.in-Ok-Unknown.ensures.taken ∙ ap answer_left here)) said

pub returns-in-Err-ArgumentType : goal.returns-in-Err-ArgumentType
returns-in-Err-ArgumentType g c = λ calls n h other m.
    let refused = c.in-Err-ArgumentType.ensures.refused in
    let here = rw c.in-Err-ArgumentType.field-0-is at refused in
    mistyped calls n c.args.args.now (function_signature c.args.f.now) (core_of c.in-Err-ArgumentType.expected, core_of c.in-Err-ArgumentType.actual) here.0 here.1

pub returns-in-Err-Fault : goal.returns-in-Err-Fault
returns-in-Err-Fault g c = λ calls n h other m.
    let refused = c.in-Err-Fault.ensures.refused in
    let takes = rw c.in-Err-Fault.field-0-is at refused in
    let asked = c.in-Err-Fault.ensures.asked in
    let answered = rw c.in-Err-Fault.field-0-is at asked in
    let agreed = h.agreeing _ _ _ takes answered in
    taken calls n c.args.args.now (function_signature c.args.f.now) takes ∙ ap answer_left agreed
