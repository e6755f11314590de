use Rattle.std.proofs.Common.{map, subst}
use Rattle.cedar_store_policies.specs.Policies.{policy_of}
use Rattle.cedar_evaluator_core.specs.Evaluators.{IsTruthOf}
use Rattle.cedar_evaluator_requests.specs.Views.{error_of}
use Rattle.cedar_gate_sessions.proofs.Told.{no_error}
use Rattle.cedar_gate_sessions.proofs.answers.put_error.Goals as goal

pub returns-in-Ok : goal.returns-in-Ok
returns-in-Ok c = λ l h. no_error (map error_of c.args.errors.now.items) (policy_of c.args.policy.now) l _ (subst (IsTruthOf l) c.in-Ok.is h)

pub returns-in-Err : goal.returns-in-Err
returns-in-Err c = λ l h. c.put.ensures l (subst (IsTruthOf l) c.in-Err.is h)
