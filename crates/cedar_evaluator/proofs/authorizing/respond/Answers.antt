use Rattle.std.proofs.Common.{◌∙◌}
use Rattle.std.proofs.lemmas.Result.{IfOk-weaker}
use Rattle.cedar_store_model.specs.Policy.{no_bindings}
use Rattle.cedar_store_policies.specs.PolicySets.{set_of}
use Rattle.cedar_evaluator_requests.specs.Views.{request_of}
use Rattle.cedar_evaluator_core.specs.Evaluators.{asked_of, limit_of, scope_in}
use Rattle.cedar_evaluator.proofs.Kept.{all_kept, policies_apart}
use Rattle.cedar_evaluator.proofs.authorizing.respond.Goals as goal

pub returns : goal.returns
returns g c = λ fs same s.
    let e = c.args.evaluator.now in
    let set = set_of c.args.policies.now in
    IfOk-weaker c.into_response.result _ _ (λ r h. h ∙ all_kept (scope_in g.T.FunctionTable.table fs e no_bindings) (limit_of e) set.policies (policies_apart set (c.ids_are_distinct.ensures c.args.policies.now)) (request_of c.args.request.value) (asked_of e) c.in_ok-gathering.gathering same (c.in_ok-gathering.ensures fs s)) c.into_response.ensures
