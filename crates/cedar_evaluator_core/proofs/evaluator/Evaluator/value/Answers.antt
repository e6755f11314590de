use Rattle.cedar_evaluator_core.proofs.Concluded.{passed_on}
use Rattle.cedar_evaluator_core.proofs.evaluator.Evaluator.value.Goals as goal

pub returns-in-Ok : goal.returns-in-Ok
returns-in-Ok g c = λ fs h. c.value_of.ensures _ (c.in-Ok.ensures.left fs h)

pub returns-in-Err : goal.returns-in-Err
returns-in-Err g c = λ fs h. passed_on _ _ (c.in-Err.ensures.left fs h)
