use Rattle.cedar_evaluator_model.proofs.Owed.{owed, owed_without_values}
use Rattle.cedar_evaluator_model.proofs.Reached.{owed_unless_limit}
use Rattle.cedar_evaluator_model.proofs.Larger.{larger_limits_keep}
use Rattle.cedar_evaluator_model.proofs.laws.outcomes_are_owed.Goals as goal

pub returns-clause-owed : goal.returns-clause-owed
returns-clause-owed c = owed

pub returns-clause-without_values : goal.returns-clause-without_values
returns-clause-without_values c = owed_without_values

pub returns-clause-unless_limit : goal.returns-clause-unless_limit
returns-clause-unless_limit c = owed_unless_limit

pub returns-clause-larger_limits : goal.returns-clause-larger_limits
returns-clause-larger_limits c = larger_limits_keep
