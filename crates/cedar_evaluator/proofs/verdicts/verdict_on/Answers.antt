use Rattle.std.proofs.Common.{ap, sym, subst, ◌∙◌}
use Rattle.std.specs.Prelude.{IfOk}
use Rattle.cedar_store_model.specs.Policy.{binding_of, condition}
use Rattle.cedar_store_parts.specs.Parts.{bindings_of}
use Rattle.cedar_store_policies.specs.Policies.{policy_of}
use Rattle.cedar_evaluator_model.specs.Evaluation.{evaluated}
use Rattle.cedar_evaluator_model.specs.Response.{slots_bound}
use Rattle.cedar_evaluator_model.specs.Scope.{residual}
use Rattle.cedar_evaluator_model.specs.Steps.{on_value, truth_wanted}
use Rattle.cedar_evaluator_core.specs.Evaluators.{limit_of, scope_in}
use Rattle.cedar_evaluator.specs.Verdicts.{with_residual, IsLeft}
use Rattle.cedar_evaluator.proofs.Told.{asked_then}
use Rattle.cedar_evaluator.proofs.verdicts.verdict_on.Goals as goal

pub returns-in-Ok : goal.returns-in-Ok
returns-in-Ok g c = λ fs s.
    let table = g.T.FunctionTable.table in
    let e = c.args.evaluator.now in
    let p = policy_of c.args.policy.now in
    let whole = evaluated (scope_in table fs e p.bindings) (limit_of e) (condition p) in
    let left = on_value whole truth_wanted residual in
    let told = c.in-Ok.ensures fs s in
    subst (λ l. IfOk c.kept.result (IsLeft l)) (ap (λ b. with_residual (slots_bound (binding_of b)) left) c.env.ensures.bindings ∙ sym (asked_then (slots_bound (binding_of p.bindings)) whole)) (c.kept.ensures left told)

pub returns-in-Err : goal.returns-in-Err
returns-in-Err g c = λ fs s.
    let table = g.T.FunctionTable.table in
    let e = c.args.evaluator.now in
    let p = policy_of c.args.policy.now in
    let whole = evaluated (scope_in table fs e p.bindings) (limit_of e) (condition p) in
    let left = on_value whole truth_wanted residual in
    let told = c.in-Err.ensures fs s in
    subst (λ l. IfOk c.erred.result (IsLeft l)) (sym (asked_then (slots_bound (binding_of p.bindings)) whole)) (c.erred.ensures (slots_bound (binding_of p.bindings)) left told)
