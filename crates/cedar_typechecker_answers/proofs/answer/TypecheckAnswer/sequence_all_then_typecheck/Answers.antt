use Rattle.std.proofs.Common.{Ok, refl, ap, ◌∙◌}
use Rattle.std.specs.List.{list_all}
use Rattle.cedar_typechecker_answers.specs.Surface.{has_type}
use Rattle.cedar_typechecker_answers.proofs.Sequenced.{all_follow, some_fail, found}
use Rattle.cedar_typechecker_answers.proofs.answer.TypecheckAnswer.sequence_all_then_typecheck.Goals as goal

pub returns-then-are_typed : goal.returns-then-are_typed
returns-then-are_typed g c =
    let w = c.in_ok-answer in
    let z = found c.args.answers.items c.in_ok-parts.field-0 c.in-Some.parts c.in-Some.is c.in_ok-parts.ensures in
    all_follow (λ ps b. g.F.FnOnce.post c.args.f (ps, tt) (Ok b)) c.args.answers.items c.in-Some.parts w.answer w.answer z w.ensures c.all_typed-are_typed.result (c.all_typed-are_typed.ensures ∙ ap (list_all has_type) c.as_slice.ensures.value) c.if-are_typed.true refl

pub returns-else-are_typed : goal.returns-else-are_typed
returns-else-are_typed g c =
    let w = c.in_ok-answer in
    let z = found c.args.answers.items c.in_ok-parts.field-0 c.in-Some.parts c.in-Some.is c.in_ok-parts.ensures in
    let e = c.into_fail.ensures in
    some_fail (λ ps b. g.F.FnOnce.post c.args.f (ps, tt) (Ok b)) c.args.answers.items c.in-Some.parts w.answer c.into_fail.result z w.ensures c.all_typed-are_typed.result (c.all_typed-are_typed.ensures ∙ ap (list_all has_type) c.as_slice.ensures.value) c.if-are_typed.false (e.fails, e.expression)
