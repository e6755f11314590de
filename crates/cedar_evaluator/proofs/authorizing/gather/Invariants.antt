use Rattle.std.proofs.Common.{◌≡◌, ◌++◌, map}
use Rattle.cedar_store_model.specs.Policy.{no_bindings}
use Rattle.cedar_store_policies.specs.Policies.{policy_of}
use Rattle.cedar_store_policies.specs.PolicySets.{set_of}
use Rattle.cedar_evaluator_model.specs.Response.{response_of}
use Rattle.cedar_evaluator_errors.specs.Calls.{Functions}
use Rattle.cedar_evaluator_core.specs.Evaluators.{asked_of, table_in, limit_of, scope_in}
use Rattle.cedar_evaluator.specs.Gathering.{gathered}
use Rattle.cedar_evaluator.proofs.authorizing.gather.Given as goal

abbrev pub invariant-loop-policy : goal.invariant-loop-policy
invariant-loop-policy g l = record {
  goes : map (λ p. policy_of p.now) l.yielded ++ map policy_of l.policy-iterator ≡ (set_of l.policies).policies;
  answered : (fs : Functions) → g.T.FunctionTable.answers_as (table_in l.evaluator) fs.calls → gathered (asked_of l.evaluator) l.gathering ≡ response_of (scope_in g.T.FunctionTable.table fs l.evaluator no_bindings) (limit_of l.evaluator) (map (λ p. policy_of p.now) l.yielded);
}
