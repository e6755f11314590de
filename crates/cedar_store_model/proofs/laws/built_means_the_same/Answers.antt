use Rattle.cedar_store_model.proofs.Built.{built_means, conjunction_is_both, disjunction_is_either}
use Rattle.cedar_store_model.proofs.laws.built_means_the_same.Goals as goal

pub returns-clause-whole : goal.returns-clause-whole
returns-clause-whole c = built_means

pub returns-clause-conjunction : goal.returns-clause-conjunction
returns-clause-conjunction c = conjunction_is_both

pub returns-clause-disjunction : goal.returns-clause-disjunction
returns-clause-disjunction c = disjunction_is_either
