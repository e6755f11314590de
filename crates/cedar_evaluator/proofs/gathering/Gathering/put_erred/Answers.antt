use Rattle.std.proofs.Common.{◌≡◌, rules, ap, ◌∙◌}
use Rattle.std.proofs.lemmas.Result.{on_ok_weaker}
use Rattle.cedar_store_parts.specs.Parts.{id_text}
use Rattle.cedar_store_policies.specs.Policies.{policy_of}
use Rattle.cedar_evaluator_model.specs.Response.{ResponseError, noted}
use Rattle.cedar_evaluator_model.specs.Response.{with_error as with_error_state}
use Rattle.cedar_evaluator_errors.specs.Outcomes.{cause_of}
use Rattle.cedar_evaluator_requests.specs.Views.{error_of}
use Rattle.cedar_evaluator.specs.Gathering.{gathered, with_false}
use Rattle.cedar_evaluator.proofs.Pushed.{pushed, error_listed}
use Rattle.cedar_evaluator.proofs.gathering.Gathering.put_erred.Goals as goal

pub returns : goal.returns
returns c = λ q.
    let p = policy_of c.args.policy.now in
    let r = gathered q c.args.self.now in
    let x : ResponseError = record { id = p.id; cause = cause_of c.args.error } in
    let same : id_text c.in_ok-id.id ≡ p.id = search rules in
    let listed = error_listed r x _ (pushed error_of c.args.self.now.errors.items _ _ x c.in_ok-push.ensures.items (λ i. record { id = same i; cause = cause_of c.args.error })) in
    on_ok_weaker c.put_false.result (λ h. h ∙ ap (λ s. with_false s p.effect (noted p, with_error_state)) listed) (c.put_false.ensures q)
