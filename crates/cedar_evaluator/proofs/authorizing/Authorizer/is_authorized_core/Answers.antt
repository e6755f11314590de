use Rattle.std.proofs.Common.{◌≡◌, None, rules, refl, ap, sym, subst, ◌∙◌}
use Rattle.std.proofs.lemmas.Result.{IfOk-weaker}
use Rattle.cedar_store_policies.specs.PolicySets.{set_of}
use Rattle.cedar_evaluator_model.specs.Members.{decision}
use Rattle.cedar_evaluator_model.specs.Response.{response_of}
use Rattle.cedar_evaluator_requests.specs.Views.{request_of}
use Rattle.cedar_evaluator_reads.proofs.Canonical.{request_canonical}
use Rattle.cedar_evaluator.specs.Authorizers.{asks_table, keeps_limit}
use Rattle.cedar_evaluator.specs.Responses.{response_seen}
use Rattle.cedar_evaluator.specs.Scopes.{scope_for}
use Rattle.cedar_evaluator.proofs.Decided.{holds_in, is_forced}
use Rattle.cedar_evaluator.proofs.Kept.{policies_apart}
use Rattle.cedar_evaluator.proofs.Scoped.{scope_under, values_for}
use Rattle.cedar_evaluator.proofs.authorizing.Authorizer.is_authorized_core.Goals as goal

pub returns-clause-response : goal.returns-clause-response
returns-clause-response g c = λ fs k.
    let table = g.T.FunctionTable.table in
    let cloned : request_of c.in_ok-clone.field-0 ≡ request_of c.args.q = search rules in
    let e = c.new-evaluator.result in
    let made = c.new-evaluator.ensures in
    let t = asks_table c.args.self.now in
    let q = request_of c.args.q in
    let es = c.args.entities.now in
    let scope = scope_under table e t (λ n. None) q es made.request made.unknowns made.entities made.table fs in
    let served = subst (λ u. g.T.FunctionTable.answers_as u fs.calls) (sym made.table) k in
    IfOk-weaker c.respond.result _ _ (λ r h. h ∙ (λ i. response_of (scope i) (made.limit i) (set_of c.args.policies.now).policies)) (c.respond.ensures fs (ap request_of c.in_ok-request.ensures.ok ∙ cloned ∙ sym made.request) served)

pub returns-clause-completions : goal.returns-clause-completions
returns-clause-completions g c = λ fs k w h.
    let set = set_of c.args.policies.now in
    let s = scope_for g.T.FunctionTable.table (asks_table c.args.self.now) (request_of c.args.q) c.args.entities.now fs in
    let values = values_for g.T.FunctionTable.table (asks_table c.args.self.now) (request_of c.args.q) c.args.entities.now fs (request_canonical c.args.q) (g.met.T.FunctionTable.makes_values (asks_table c.args.self.now) fs.calls k) in
    IfOk-weaker c.respond.result _ _ (λ r e. holds_in s (keeps_limit c.args.self.now) set.policies (policies_apart set (c.ids_are_distinct.ensures c.args.policies.now)) (response_seen r) e values w h) (returns-clause-response g c fs k)

pub returns-clause-owed : goal.returns-clause-owed
returns-clause-owed g c = λ fs k h.
    let s = scope_for g.T.FunctionTable.table (asks_table c.args.self.now) (request_of c.args.q) c.args.entities.now fs in
    IfOk-weaker c.respond.result _ _ (λ r e. is_forced s (keeps_limit c.args.self.now) (set_of c.args.policies.now).policies (response_seen r) (decision (response_seen r)) refl e h) (returns-clause-response g c fs k)
