use Rattle.std.proofs.Common.{◌∙◌}
use Rattle.cedar_store_model.specs.Policy.{binding_of, condition}
use Rattle.cedar_store_policies.specs.Policies.{policy_of}
use Rattle.cedar_evaluator_model.specs.Evaluation.{evaluated}
use Rattle.cedar_evaluator_model.specs.Response.{slots_bound}
use Rattle.cedar_evaluator_model.specs.Scope.{residual}
use Rattle.cedar_evaluator_model.specs.Steps.{on_value, truth_wanted}
use Rattle.cedar_evaluator_core.specs.Evaluators.{limit_of, scope_in}
use Rattle.cedar_gate_sessions.proofs.Told.{kind_same}
use Rattle.cedar_gate_sessions.proofs.answers.add.Goals as goal

pub returns-clause-verdict : goal.returns-clause-verdict
returns-clause-verdict g c = λ fs s.
    let table = g.T.FunctionTable.table in
    let e = c.args.evaluator.now in
    let p = policy_of c.args.policy.now in
    let whole = evaluated (scope_in table fs e p.bindings) (limit_of e) (condition p) in
    let told = c.evaluate-outcome.ensures fs s in
    c.in_ok-verdict.ensures (on_value whole truth_wanted residual) told ∙ kind_same (slots_bound (binding_of p.bindings)) whole

pub returns-clause-errors : goal.returns-clause-errors
returns-clause-errors g c = λ fs s.
    let table = g.T.FunctionTable.table in
    let e = c.args.evaluator.now in
    let p = policy_of c.args.policy.now in
    let whole = evaluated (scope_in table fs e p.bindings) (limit_of e) (condition p) in
    let told = c.evaluate-outcome.ensures fs s in
    c.in_ok-put_error.ensures (on_value whole truth_wanted residual) told
