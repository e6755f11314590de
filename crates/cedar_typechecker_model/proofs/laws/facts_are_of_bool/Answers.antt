use Rattle.cedar_typechecker_model.proofs.Bare.{facts_are_of_bool, truth_has_no_facts}
use Rattle.cedar_typechecker_model.proofs.laws.facts_are_of_bool.Goals as goal

pub returns-clause-others : goal.returns-clause-others
returns-clause-others c = facts_are_of_bool

pub returns-clause-truth : goal.returns-clause-truth
returns-clause-truth c = truth_has_no_facts
