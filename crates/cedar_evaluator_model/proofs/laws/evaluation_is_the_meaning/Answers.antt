use Rattle.cedar_evaluator_model.proofs.Exact.{exact, no_residual}
use Rattle.cedar_evaluator_model.proofs.laws.evaluation_is_the_meaning.Goals as goal

pub returns-clause-exact : goal.returns-clause-exact
returns-clause-exact c = exact

pub returns-clause-no_residual : goal.returns-clause-no_residual
returns-clause-no_residual c = no_residual
