use Rattle.std.proofs.Common.{◌≡◌, ◌∙◌, map, IfOk, ap, sym, subst}
use Rattle.cedar_expr_model.specs.ListLaws.{AreDistinct}
use Rattle.cedar_store_model.specs.Answer.{ids}
use Rattle.cedar_evaluator_requests.specs.Views.{answer_of}
use Rattle.cedar_gate_sessions.specs.Answers.{answered}
use Rattle.cedar_store_policies.specs.Policies.{policy_of}
use Rattle.cedar_gate_sessions.specs.Gates.{IsKnown}
use Rattle.cedar_gate_sessions.proofs.Evaluating.{functions_at, holds_now}
use Rattle.cedar_gate_model.specs.Session.{scope_now}
use Rattle.cedar_gate.specs.Gates.{IsSetupOf, accepted_in, table_held}
use Rattle.cedar_gate.proofs.Known.{each_known_where}
use Rattle.cedar_gate.proofs.calls.GateGateCalls.respond.Goals as goal

pub returns : goal.returns
returns g c =
    let a = c.args.self.now in
    let q = c.args.request in
    let store = c.args.store.now in
    let bound = c.args.bound.now in
    let e = c.with_unknowns-evaluator in
    let ps = map policy_of c.as_slice.result.now in
    let same : ps ≡ accepted_in a = ap (map policy_of) c.as_slice.ensures.value in
    each_known_where (λ x. IsSetupOf a x) (λ x s found. IsKnown x s found q store bound) (λ x s found r. answer_of r ≡ answered (scope_now x s found) x.limit (accepted_in a)) (AreDistinct (ids (accepted_in a))) c.respond.result (λ x s found suits known distinct.
    subst (λ qs. IfOk c.respond.result (λ r. answer_of r ≡ answered (scope_now x s found) x.limit qs)) same
    (holds_now x s found (table_held a) suits.agrees q store bound known e.result (e.ensures.request ∙ c.new.ensures.request) e.ensures.unknowns (e.ensures.entities ∙ c.new.ensures.entities)
    (e.ensures.table ∙ c.new.ensures.table) (e.ensures.limit ∙ c.new.ensures.limit ∙ c.levels.ensures ∙ suits.limit)
    (λ k n. IfOk c.respond.result (λ r. answer_of r ≡ answered k n ps)) (λ made. c.respond.ensures.left (functions_at x s found (table_held a) suits.agrees q store bound known) made (subst (λ qs. AreDistinct (ids qs)) (sym same) distinct))))
