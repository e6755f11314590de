use Rattle.std.proofs.Common.{◌≡◌, rules, ap, sym, subst, ◌∙◌}
use Rattle.std.proofs.lemmas.Result.{IfOk-weaker}
use Rattle.cedar_store_policies.specs.PolicySets.{set_of}
use Rattle.cedar_evaluator_model.specs.Response.{response_of}
use Rattle.cedar_evaluator_reads.specs.Scopes.{values_in}
use Rattle.cedar_evaluator_requests.specs.Views.{request_of}
use Rattle.cedar_evaluator.specs.Authorizers.{asks_table}
use Rattle.cedar_evaluator.proofs.Scoped.{scope_under}
use Rattle.cedar_evaluator.proofs.authorizing.Authorizer.resume.Goals as goal

pub returns : goal.returns
returns g c = λ fs k.
    let table = g.T.FunctionTable.table in
    let cloned : request_of c.in_ok-clone.field-0 ≡ request_of c.args.q = search rules in
    let e = c.with_unknowns-evaluator.result in
    let plain = c.new-plain.ensures in
    let made = c.with_unknowns-evaluator.ensures in
    let t = asks_table c.args.self.now in
    let q = request_of c.args.q in
    let env = values_in c.args.mapping.now in
    let es = c.args.entities.now in
    let asked = made.request ∙ plain.request in
    let over = made.entities ∙ plain.entities in
    let by_table = made.table ∙ plain.table in
    let scope = scope_under table e t env q es asked made.unknowns over by_table fs in
    let served = subst (λ u. g.T.FunctionTable.answers_as u fs.calls) (sym by_table) k in
    let limit = made.limit ∙ plain.limit in
    IfOk-weaker c.respond.result _ _ (λ r h. h ∙ (λ i. response_of (scope i) (limit i) (set_of c.args.policies.now).policies)) (c.respond.ensures fs (ap request_of c.in_ok-request.ensures.ok ∙ cloned ∙ sym asked) served)
