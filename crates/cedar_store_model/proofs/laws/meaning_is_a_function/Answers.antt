use Rattle.cedar_store_model.proofs.Meaning.{meaning_is_a_function, one_outcome}
use Rattle.cedar_store_model.proofs.Known.{an_outcome}
use Rattle.cedar_store_model.proofs.laws.meaning_is_a_function.Goals as goal

pub returns-clause-computed : goal.returns-clause-computed
returns-clause-computed c = meaning_is_a_function

pub returns-clause-at_most_one : goal.returns-clause-at_most_one
returns-clause-at_most_one c = one_outcome

pub returns-clause-at_least_one : goal.returns-clause-at_least_one
returns-clause-at_least_one c = an_outcome
