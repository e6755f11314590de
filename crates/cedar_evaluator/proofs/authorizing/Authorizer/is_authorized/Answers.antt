use Rattle.std.proofs.Common.{◌≡◌, ap, subst, ◌∙◌}
use Rattle.std.specs.Prelude.{IfOk}
use Rattle.std.proofs.lemmas.Result.{IfOk-weaker}
use Rattle.cedar_store_policies.specs.PolicySets.{set_of}
use Rattle.cedar_evaluator_model.specs.Members.{concretize}
use Rattle.cedar_evaluator_requests.specs.Views.{answer_of, request_of}
use Rattle.cedar_evaluator.specs.Scopes.{scope_for}
use Rattle.cedar_evaluator.specs.Authorizers.{asks_table, keeps_limit}
use Rattle.cedar_evaluator.proofs.Decided.{closed_answer}
use Rattle.cedar_evaluator.proofs.authorizing.Authorizer.is_authorized.Goals as goal

pub returns-clause-response : goal.returns-clause-response
returns-clause-response g c = λ fs k. IfOk-weaker c.concretize.result _ _ (λ a h. h ∙ ap concretize (c.in_ok-response.ensures.response fs k)) c.concretize.ensures

pub returns-clause-meaning : goal.returns-clause-meaning
returns-clause-meaning g c = λ fs k closed.
    let s = scope_for g.T.FunctionTable.table (asks_table c.args.self.now) (request_of c.args.q) c.args.entities.now fs in
    subst (λ x. IfOk c.concretize.result (λ a. answer_of a ≡ x)) (closed_answer s (keeps_limit c.args.self.now) (set_of c.args.policies.now).policies closed)
    (IfOk-weaker c.concretize.result _ _ (λ a h. h ∙ ap concretize (c.in_ok-response.ensures.response fs k)) c.concretize.ensures)
