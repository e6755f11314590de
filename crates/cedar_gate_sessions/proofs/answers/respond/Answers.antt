use Rattle.std.proofs.Common.{◌≡◌, map, subst, ◌∙◌}
use Rattle.std.specs.Prelude.{IfOk}
use Rattle.cedar_store_model.specs.Policy.{no_bindings}
use Rattle.cedar_store_policies.specs.Policies.{policy_of}
use Rattle.cedar_evaluator_core.specs.Evaluators.{limit_of, scope_in}
use Rattle.cedar_evaluator_requests.specs.Views.{answer_of}
use Rattle.cedar_gate_sessions.proofs.AnswersLeft.{answered_is}
use Rattle.cedar_gate_sessions.proofs.answers.respond.Goals as goal

pub returns-clause-left : goal.returns-clause-left
returns-clause-left g c = λ fs s distinct.
    let e = c.args.evaluator.now in
    c.response.ensures (scope_in g.T.FunctionTable.table fs e no_bindings) (limit_of e) (c.as_slice.ensures.value ∙ c.in_ok-verdicts.ensures.verdicts fs s) (c.in_ok-verdicts.ensures.errors fs s) distinct

pub returns-clause-meaning : goal.returns-clause-meaning
returns-clause-meaning g c = λ fs s distinct agrees known loaded within.
    let e = c.args.evaluator.now in
    let scope = scope_in g.T.FunctionTable.table fs e no_bindings in
    subst (λ k. IfOk c.response.result (λ r. answer_of r ≡ k)) (answered_is scope (limit_of e) agrees known loaded (map policy_of c.args.policies.now) within)
    (c.response.ensures scope (limit_of e) (c.as_slice.ensures.value ∙ c.in_ok-verdicts.ensures.verdicts fs s) (c.in_ok-verdicts.ensures.errors fs s) distinct)
