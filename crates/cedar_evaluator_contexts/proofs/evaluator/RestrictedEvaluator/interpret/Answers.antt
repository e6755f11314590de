use Rattle.cedar_evaluator_core.proofs.Concluded.{passed_on}
use Rattle.cedar_evaluator_contexts.proofs.evaluator.RestrictedEvaluator.interpret.Goals as goal

pub returns-in-Ok : goal.returns-in-Ok
returns-in-Ok g c = λ s h. c.value_of.ensures _ (c.in-Ok.ensures s h)

pub returns-in-Err : goal.returns-in-Err
returns-in-Err g c = λ s h. passed_on _ _ (c.in-Err.ensures s h)
