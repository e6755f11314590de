use Rattle.std.proofs.Common.{map}
use Rattle.cedar_store_model.specs.Policy.{no_bindings}
use Rattle.cedar_store_policies.specs.Policies.{policy_of}
use Rattle.cedar_evaluator_model.specs.Response.{verdict}
use Rattle.cedar_evaluator_core.specs.Evaluators.{limit_of, scope_in}
use Rattle.cedar_evaluator_requests.specs.Views.{error_of}
use Rattle.cedar_gate_sessions.specs.Answers.{asked, if_erring, errors_left}
use Rattle.cedar_gate_sessions.specs.Verdicts.{kind_of, verdicts_of}
use Rattle.cedar_gate_sessions.proofs.Stepping.{push_next, filter_next, all_of}
use Rattle.cedar_gate_sessions.proofs.answers.evaluate.Goals as goal

pub loop-policy-preserved : goal.loop-policy-preserved
loop-policy-preserved g c =
    let e = c.args.evaluator.now in
    let table = g.T.FunctionTable.table in
    record {
      verdicts = λ fs s.
          push_next policy_of c.args.policies.now c.loop-policy.policy-index c.policy-item.result c.loop-policy-test.true c.policy-item.is (λ p. kind_of (verdict (scope_in table fs e no_bindings) (limit_of e) p)) c.loop-policy.verdicts.items c.push.new.self.items c.in_ok-add.field-0
          (c.loop-policy.invariant.verdicts fs s) c.in_ok-push.ensures.items (c.in_ok-add.ensures.verdict fs s);
      errors = λ fs s.
          filter_next policy_of c.args.policies.now c.loop-policy.policy-index c.policy-item.result c.loop-policy-test.true c.policy-item.is (λ p. if_erring p (asked (scope_in table fs e no_bindings) (limit_of e) p)) (map error_of c.loop-policy.errors.items) (map error_of c.add.new.errors.items)
          (c.loop-policy.invariant.errors fs s) (c.in_ok-add.ensures.errors fs s);
    }

pub returns-clause-verdicts : goal.returns-clause-verdicts
returns-clause-verdicts g c = λ fs s.
    let e = c.args.evaluator.now in
    all_of policy_of c.args.policies.now c.loop-policy.policy-index (verdicts_of (scope_in g.T.FunctionTable.table fs e no_bindings) (limit_of e)) c.loop-policy.verdicts.items c.loop-policy-test.false (c.loop-policy.invariant.verdicts fs s)

pub returns-clause-errors : goal.returns-clause-errors
returns-clause-errors g c = λ fs s.
    let e = c.args.evaluator.now in
    all_of policy_of c.args.policies.now c.loop-policy.policy-index (errors_left (scope_in g.T.FunctionTable.table fs e no_bindings) (limit_of e)) (map error_of c.loop-policy.errors.items) c.loop-policy-test.false (c.loop-policy.invariant.errors fs s)
