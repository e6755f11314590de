use Rattle.cedar_store_model.proofs.Slices.{same_means}
use Rattle.cedar_store_model.proofs.Stores.{only_lookups_answer}
use Rattle.cedar_store_model.proofs.laws.only_lookups_matter.Goals as goal

pub returns-clause-outcomes : goal.returns-clause-outcomes
returns-clause-outcomes c = same_means

pub returns-clause-answers : goal.returns-clause-answers
returns-clause-answers c = only_lookups_answer
