use Rattle.cedar_evaluator_core.proofs.Concluded.{verdict_stops}
use Rattle.cedar_evaluator_core.proofs.evaluator.Evaluator.verdict.Goals as goal

pub returns-in-Ok : goal.returns-in-Ok
returns-in-Ok g c = λ fs h. c.verdict_of.ensures _ (c.in-Ok.ensures.left fs h)

pub returns-in-Err : goal.returns-in-Err
returns-in-Err g c = λ fs h. verdict_stops _ _ (c.in-Err.ensures.left fs h)
