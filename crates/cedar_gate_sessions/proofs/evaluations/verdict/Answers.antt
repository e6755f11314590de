use Rattle.std.proofs.Common.{◌≡◌, subst}
use Rattle.std.specs.Prelude.{IfOk}
use Rattle.cedar_store_model.specs.Policy.{binding_of, condition}
use Rattle.cedar_store_policies.specs.Policies.{policy_of}
use Rattle.cedar_evaluator_model.specs.Evaluation.{evaluated}
use Rattle.cedar_evaluator_model.specs.Response.{slots_bound}
use Rattle.cedar_evaluator_model.specs.Scope.{residual}
use Rattle.cedar_evaluator_model.specs.Steps.{on_value, truth_wanted}
use Rattle.cedar_evaluator_core.specs.Evaluators.{limit_of, scope_in}
use Rattle.cedar_gate_sessions.proofs.Told.{kind_same}
use Rattle.cedar_gate_sessions.proofs.evaluations.verdict.Goals as goal

pub returns : goal.returns
returns g c = λ fs s.
    let table = g.T.FunctionTable.table in
    let e = c.args.evaluator.now in
    let p = policy_of c.args.policy.now in
    let whole = evaluated (scope_in table fs e p.bindings) (limit_of e) (condition p) in
    let told = c.evaluate-outcome.ensures fs s in
    subst (λ k. IfOk c.kind.result (λ v. v ≡ k)) (kind_same (slots_bound (binding_of p.bindings)) whole) (c.kind.ensures (on_value whole truth_wanted residual) told)
