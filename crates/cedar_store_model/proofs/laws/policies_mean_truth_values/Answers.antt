use Rattle.cedar_store_model.proofs.Conditions.{policies_mean_truth}
use Rattle.cedar_store_model.proofs.Conditions.{policy_meaning_is_a_function}
use Rattle.cedar_store_model.proofs.laws.policies_mean_truth_values.Goals as goal

pub returns-clause-same : goal.returns-clause-same
returns-clause-same c = policies_mean_truth

pub returns-clause-computed : goal.returns-clause-computed
returns-clause-computed c = policy_meaning_is_a_function
