use Rattle.std.proofs.Common.{Ok, ap, ◌∙◌}
use Rattle.cedar_typechecker_answers.specs.declared.answer.TypecheckAnswer.TheVariants.{Fail}
use Rattle.cedar_typechecker_answers.proofs.Sequenced.{then_fails}
use Rattle.cedar_typechecker_answers.proofs.answer.TypecheckAnswer.then_typecheck.Goals as goal

pub returns-in_ok-answer-in-Fail-Some : goal.returns-in_ok-answer-in-Fail-Some
returns-in_ok-answer-in-Fail-Some g c =
    let w = c.in-Fail-Some in
    let k = c.in_ok-answer-in-Fail-Some in
    then_fails (λ e d b. g.F.FnOnce.post c.args.f (e, (d, tt)) (Ok b)) c.args.self k.answer c.into_fail.result w.expr c.new.result (w.is ∙ ap Fail w.expr_recovery_type-is) c.new.ensures k.ensures c.into_fail.ensures.fails c.into_fail.ensures.expression
