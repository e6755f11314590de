use Rattle.std.proofs.Common.{ap, ◌∙◌}
use Rattle.cedar_expr_functions.specs.Functions.{function_signature}
use Rattle.cedar_expr_trees.specs.Unknowns.{unknown_of}
use Rattle.cedar_evaluator_model.specs.Steps.{answer_left}
use Rattle.cedar_evaluator_restricted_exprs.specs.Lefts.{is_stopped}
use Rattle.cedar_evaluator_errors.proofs.Called.{taken, mistyped}
use Rattle.cedar_evaluator_restricted_exprs.proofs.Called.{left_alone}
use Rattle.cedar_evaluator_restricted_exprs.proofs.calls.ask.Goals as goal

pub returns-in-Ok-Known : goal.returns-in-Ok-Known
returns-in-Ok-Known g c = λ s n h.
    let agreed = h.agreeing _ _ _ c.in-Ok-Known.ensures.taken c.in-Ok-Known.ensures.asked in
    let here = rw c.in-Ok-Known.field-0-is at agreed in
    taken s.calls n c.args.args.now (function_signature c.args.f.now) c.in-Ok-Known.ensures.taken ∙ ap answer_left here

pub returns-in-Ok-Unknown : goal.returns-in-Ok-Unknown
returns-in-Ok-Unknown g c = λ s n h.
    let agreed = h.agreeing _ _ _ c.in-Ok-Unknown.ensures.taken c.in-Ok-Unknown.ensures.asked in
    let here = rw c.in-Ok-Unknown.field-0-is at agreed in
    let output = rw c.in-Ok-Unknown.field-0-is at c.in-Ok-Unknown.ensures.of_result in
    taken s.calls n c.args.args.now (function_signature c.args.f.now) c.in-Ok-Unknown.ensures.taken ∙ ap answer_left here
    ∙ left_alone (unknown_of c.in-Ok-Unknown.u) (function_signature c.args.f.now).result _ output c.unknown.ensures.tree

pub returns-in-Err-ArgumentType : goal.returns-in-Err-ArgumentType
returns-in-Err-ArgumentType g c = λ s n h q.
    let refused = rw c.in-Err-ArgumentType.field-0-is at c.in-Err-ArgumentType.ensures.refused in
    ap is_stopped (mistyped s.calls n c.args.args.now (function_signature c.args.f.now) _ refused.0 refused.1)
