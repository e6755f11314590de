use Rattle.cedar_evaluator_core.proofs.Concluded.{verdict_refused}
use Rattle.cedar_evaluator_core.proofs.outcomes.verdict_of.Goals as goal

pub returns-in-Value : goal.returns-in-Value
returns-in-Value c = λ l h. verdict_refused l c.args.left c.in-Value.v c.in-Err.error h c.in-Value.is c.in-Err.ensures
