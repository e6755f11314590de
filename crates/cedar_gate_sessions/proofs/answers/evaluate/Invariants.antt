-- The verdicts and the errors are those of the policies so far.
use Rattle.std.proofs.Common.{◌≡◌, map, take}
use Rattle.cedar_store_model.specs.Policy.{no_bindings}
use Rattle.cedar_store_policies.specs.Policies.{policy_of}
use Rattle.cedar_evaluator_errors.specs.Calls.{Functions}
use Rattle.cedar_evaluator_core.specs.Evaluators.{limit_of, scope_in, table_in}
use Rattle.cedar_evaluator_requests.specs.Views.{error_of}
use Rattle.cedar_gate_sessions.specs.Answers.{errors_left}
use Rattle.cedar_gate_sessions.specs.Verdicts.{verdicts_of}
use Rattle.cedar_gate_sessions.proofs.answers.evaluate.Given as goal

abbrev pub invariant-loop-policy : goal.invariant-loop-policy
invariant-loop-policy g l = record {
  verdicts : (fs : Functions) → g.T.FunctionTable.answers_as (table_in l.evaluator) fs.calls → l.verdicts.items ≡ verdicts_of (scope_in g.T.FunctionTable.table fs l.evaluator no_bindings) (limit_of l.evaluator) (map policy_of (take l.policy-index l.policies));
  errors : (fs : Functions) → g.T.FunctionTable.answers_as (table_in l.evaluator) fs.calls → map error_of l.errors.items ≡ errors_left (scope_in g.T.FunctionTable.table fs l.evaluator no_bindings) (limit_of l.evaluator) (map policy_of (take l.policy-index l.policies));
}
