use Rattle.cedar_store_model.specs.Policy.{no_bindings}
use Rattle.cedar_store_policies.specs.Policies.{policy_of}
use Rattle.cedar_evaluator_model.specs.Response.{verdict}
use Rattle.cedar_evaluator_core.specs.Evaluators.{limit_of, scope_in}
use Rattle.cedar_gate_sessions.specs.Verdicts.{kind_of, verdicts_of}
use Rattle.cedar_gate_sessions.proofs.Stepping.{push_next, all_of}
use Rattle.cedar_gate_sessions.proofs.evaluations.verdicts.Goals as goal

pub loop-policy-preserved : goal.loop-policy-preserved
loop-policy-preserved g c = λ fs s.
    let e = c.args.evaluator.now in
    let scope = scope_in g.T.FunctionTable.table fs e no_bindings in
    push_next policy_of c.args.policies.now c.loop-policy.policy-index c.policy-item.result c.loop-policy-test.true c.policy-item.is (λ p. kind_of (verdict scope (limit_of e) p)) c.loop-policy.all.items c.push.new.self.items c.in_ok-verdict.field-0
    (c.loop-policy.invariant fs s) c.in_ok-push.ensures.items (c.in_ok-verdict.ensures fs s)

pub returns : goal.returns
returns g c = λ fs s.
    let e = c.args.evaluator.now in
    all_of policy_of c.args.policies.now c.loop-policy.policy-index (verdicts_of (scope_in g.T.FunctionTable.table fs e no_bindings) (limit_of e)) c.loop-policy.all.items c.loop-policy-test.false (c.loop-policy.invariant fs s)
