use Rattle.std.proofs.Common.{subst}
use Rattle.cedar_evaluator_core.specs.Evaluators.{IsTruthOf}
use Rattle.cedar_gate_sessions.proofs.evaluations.kind.Goals as goal

pub returns-in-Ok : goal.returns-in-Ok
returns-in-Ok c = λ l h. c.kind_of_truth.ensures l (subst (IsTruthOf l) c.in-Ok.is h)

pub returns-in-Err : goal.returns-in-Err
returns-in-Err c = λ l h. c.kind_of_error.ensures l (subst (IsTruthOf l) c.in-Err.is h)
