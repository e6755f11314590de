use Rattle.std.proofs.Common.{◌≡◌, true, map, refl, sym, ap, ◌∙◌, subst}
use Rattle.std.specs.Prelude.{is_none}
use Rattle.std.specs.Str.{bytes_eq}
use Rattle.cedar_expr_model.specs.Repeats.{repeated}
use Rattle.cedar_store_model.specs.Answer.{ids}
use Rattle.cedar_store_model.specs.OfLaws.Distinct.{has_distinct_ids}
use Rattle.cedar_store_policies.specs.Policies.{policy_of}
use Rattle.cedar_store_policies.specs.PolicySets.{set_of}
use Rattle.cedar_store_policies.specs.SetRefusals.{RefusesIds}
use Rattle.cedar_evaluator_model.specs.Members.{all_residuals}
use Rattle.cedar_evaluator_model.specs.Reauthorize.{distinct, makes_it, refuses, request_bound, resumed}
use Rattle.cedar_evaluator_model.specs.Response.{response_of}
use Rattle.cedar_evaluator_reads.specs.Scopes.{values_in}
use Rattle.cedar_evaluator_requests.specs.Views.{request_of}
use Rattle.cedar_evaluator.specs.Authorizers.{asks_table, keeps_limit}
use Rattle.cedar_evaluator_contexts.specs.Refusals.{refusal_or}
use Rattle.cedar_evaluator_contexts.specs.Functions.{HasFunctionsOf}
use Rattle.cedar_evaluator.specs.Responses.{response_seen}
use Rattle.cedar_evaluator.specs.Scopes.{scope_for}
use Rattle.cedar_evaluator.proofs.Repeated.{are_distinct, memory_passed, request_passed, second_step, set_passed}
use Rattle.cedar_evaluator.proofs.partial_response.PartialResponse.resumed.Goals as goal

pub returns-in_err-left : goal.returns-in_err-left
returns-in_err-left g c = λ fs k. memory_passed _ c.from_residual.result c.from_residual.ensures.1

pub returns-in_err-policies : goal.returns-in_err-policies
returns-in_err-policies g c = λ fs k.
    let r = response_seen c.args.self.now in
    let s = scope_for g.T.FunctionTable.table (asks_table c.args.auth.now) r.request c.args.es.now fs in
    set_passed s (keeps_limit c.args.auth.now) (values_in c.args.mapping.now) r c.in_err-policies.field-0.0 c.from_residual-in_err-policies.result c.from_residual-in_err-policies.ensures.1
    (subst (λ ps. RefusesIds (ids ps) c.in_err-policies.field-0.0) c.in_ok-left.ensures c.in_err-policies.ensures.refused)

pub returns-in_err-request : goal.returns-in_err-request
returns-in_err-request g c = λ fs k.
    let table = g.T.FunctionTable.table in
    let r = response_seen c.args.self.now in
    let t = asks_table c.args.auth.now in
    let env = values_in c.args.mapping.now in
    let es = c.args.es.now in
    let n = keeps_limit c.args.auth.now in
    let d : distinct (all_residuals r) ≡ makes_it (all_residuals r) =
    are_distinct (all_residuals r) (subst (λ ps. is_none (repeated bytes_eq (ids ps)) ≡ true) c.in_ok-left.ensures (subst (λ x. has_distinct_ids x ≡ true) c.in_ok-policies.ensures.made c.in_ok-policies.ensures.distinct)) in
    let s = scope_for table t r.request es fs in
    let same : request_of c.deref.result.now ≡ r.request = ap request_of c.deref.ensures in
    let has : HasFunctionsOf table g.T.FunctionTable.answers_as t s = record { answers = fs.answers; tabled = refl; answered = k } in
    request_passed s n env r c.in_err-request.field-0.0 c.from_residual-in_err-request.result c.from_residual-in_err-request.ensures.1 d
    (λ other m. subst (λ q. request_bound s env q ≡ refuses (refusal_or other c.in_err-request.field-0.0)) same (c.in_err-request.ensures s has other m))

pub returns-in_err-resume : goal.returns-in_err-resume
returns-in_err-resume g c = λ fs k. memory_passed _ c.from_residual-in_err-resume.result c.from_residual-in_err-resume.ensures.1

pub returns : goal.returns
returns g c = λ fs k.
    let table = g.T.FunctionTable.table in
    let answers_as = g.T.FunctionTable.answers_as in
    let r = response_seen c.args.self.now in
    let t = asks_table c.args.auth.now in
    let env = values_in c.args.mapping.now in
    let es = c.args.es.now in
    let n = keeps_limit c.args.auth.now in
    let s = scope_for table t r.request es fs in
    let b = request_of c.in_ok-request.request in
    let d : distinct (all_residuals r) ≡ makes_it (all_residuals r) =
    are_distinct (all_residuals r) (subst (λ ps. is_none (repeated bytes_eq (ids ps)) ≡ true) c.in_ok-left.ensures (subst (λ x. has_distinct_ids x ≡ true) c.in_ok-policies.ensures.made c.in_ok-policies.ensures.distinct)) in
    let same : request_of c.deref.result.now ≡ r.request = ap request_of c.deref.ensures in
    let has : HasFunctionsOf table answers_as t s = record { answers = fs.answers; tabled = refl; answered = k } in
    let bound : request_bound s env r.request ≡ makes_it b = subst (λ q. request_bound s env q ≡ makes_it b) same (c.in_ok-request.ensures s has) in
    let policies : (set_of c.in_ok-policies.policies).policies ≡ all_residuals r = ap (λ x. x.policies) c.in_ok-policies.ensures.made ∙ c.in_ok-left.ensures in
    second_step s n env r (makes_it b) d bound ∙ ap makes_it (sym (c.in_ok-resume.ensures fs k ∙ ap (response_of (resumed s env b) n) policies))
