-- The verdict on a policy by why it has no truth value.
-- Rule: partial evaluation; partial responses (docs/RULES.md).
use Rattle.cedar_evaluator_errors.specs.declared.err.EvaluationError.{EvaluationError}
use Rattle.cedar_evaluator_errors.specs.declared.err.EvaluationError.TheVariants.{NonValue, RecursionLimit}
use Rattle.cedar_gate_sessions.specs.declared.kinds.Verdict.{Verdict}
use Rattle.cedar_gate_sessions.specs.declared.kinds.Verdict.TheVariants.{Open, Not, Limit}

abbrev pub error_kind : EvaluationError → Verdict
error_kind (NonValue e) = Open
error_kind (RecursionLimit e) = Limit
error_kind e = Not
