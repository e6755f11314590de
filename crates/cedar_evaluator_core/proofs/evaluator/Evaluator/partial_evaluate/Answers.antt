use Rattle.std.proofs.Common.{subst}
use Rattle.cedar_store_model.specs.Policy.{condition}
use Rattle.cedar_store_parts.specs.Parts.{bindings_of}
use Rattle.cedar_store_policies.specs.Policies.{policy_of}
use Rattle.cedar_evaluator_model.specs.Scope.{residual}
use Rattle.cedar_evaluator_model.specs.Steps.{on_value, truth_wanted}
use Rattle.cedar_evaluator_model.specs.Evaluation.{evaluated}
use Rattle.cedar_evaluator_core.specs.Evaluators.{limit_of, scope_in, IsVerdict}
use Rattle.cedar_evaluator_core.proofs.evaluator.Evaluator.partial_evaluate.Goals as goal

pub returns : goal.returns
returns g c = λ fs h.
    let table = g.T.FunctionTable.table in
    let p = policy_of c.args.policy.now in
    subst (λ b. IsVerdict (on_value (evaluated (scope_in table fs c.args.self.now b) (limit_of c.args.self.now) (condition p)) truth_wanted residual) c.verdict.result) c.env.ensures.bindings
    (subst (λ t. IsVerdict (on_value (evaluated (scope_in table fs c.args.self.now (bindings_of c.env.result.now)) (limit_of c.args.self.now) t) truth_wanted residual) c.verdict.result) c.condition.ensures (c.verdict.ensures fs h))
