use Rattle.std.proofs.Common.{◌≡◌, ap, sym, subst, ◌∙◌}
use Rattle.std.specs.Prelude.{OnOk, Some, None}
use Rattle.std.proofs.lemmas.Result.{on_ok_weaker}
use Rattle.cedar_expr_trees.specs.Trees.{tree_of}
use Rattle.cedar_store_policies.specs.Policies.{policy_of}
use Rattle.cedar_evaluator_model.specs.Response.{noted, no_error, with_error}
use Rattle.cedar_evaluator_errors.specs.Outcomes.{cause_of}
use Rattle.cedar_evaluator.specs.Gathering.{gathered, with_left, with_residual, with_parts}
use Rattle.cedar_evaluator.specs.Verdicts.{left_seen, TellsStop}
use Rattle.cedar_evaluator.proofs.Put.{true_put, false_put, residual_put, erred_put}
use Rattle.cedar_evaluator.proofs.gathering.Gathering.put.Goals as goal

pub returns-in-True : goal.returns-in-True
returns-in-True c = λ q t.
    let p = policy_of c.args.policy.now in
    let r = gathered q c.args.self.now in
    subst (λ v. OnOk c.put_true.result (gathered q c.put_true.new.self ≡ with_left r p (left_seen v))) (sym c.in-True.is)
    (on_ok_weaker c.put_true.result (λ h. h ∙ true_put r p.effect (noted p)) (c.put_true.ensures q))

pub returns-in-False : goal.returns-in-False
returns-in-False c = λ q t.
    let p = policy_of c.args.policy.now in
    let r = gathered q c.args.self.now in
    subst (λ v. OnOk c.put_false.result (gathered q c.put_false.new.self ≡ with_left r p (left_seen v))) (sym c.in-False.is)
    (on_ok_weaker c.put_false.result (λ h. h ∙ false_put r p.effect (noted p, no_error)) (c.put_false.ensures q))

pub returns-in_ok-new-in-Residual : goal.returns-in_ok-new-in-Residual
returns-in_ok-new-in-Residual c = λ q t.
    let p = policy_of c.args.policy.now in
    let r = gathered q c.args.self.now in
    subst (λ v. OnOk c.put_residual.result (gathered q c.put_residual.new.self ≡ with_left r p (left_seen v))) (sym c.in-Residual.is)
    (on_ok_weaker c.put_residual.result (λ h. h ∙ ap (λ e. with_residual r p.effect (noted p, tree_of {T = Unit} e)) c.in_ok-new-in-Residual.ensures.ok ∙ residual_put r p.effect (noted p, tree_of {T = Unit} c.in-Residual.e)) (c.put_residual.ensures q))

pub returns-in-Erred : goal.returns-in-Erred
returns-in-Erred c = λ q t.
    let p = policy_of c.args.policy.now in
    let r = gathered q c.args.self.now in
    let told = subst TellsStop c.in-Erred.is t in
    subst (λ v. OnOk c.put_erred.result (gathered q c.put_erred.new.self ≡ with_left r p (left_seen v))) (sym c.in-Erred.is)
    (on_ok_weaker c.put_erred.result (λ h. h ∙ erred_put r p.effect (noted p, with_error) (record { id = p.id; cause = cause_of c.in-Erred.error }) ∙ ap (λ k. with_parts r p.effect None (Some (noted p, with_error)) None (Some (record { id = p.id; cause = k }))) told) (c.put_erred.ensures q))
