use Rattle.cedar_typechecker_model.proofs.Verdicts.{passes-Decides, is_warned-Decides, impossible-Decides, irrelevant-Decides, verdict-Decides}
use Rattle.cedar_typechecker_model.proofs.laws.verdicts_are_decided.Goals as goal

pub returns-clause-passes : goal.returns-clause-passes
returns-clause-passes c = passes-Decides

pub returns-clause-warned : goal.returns-clause-warned
returns-clause-warned c = is_warned-Decides

pub returns-clause-impossible : goal.returns-clause-impossible
returns-clause-impossible c = impossible-Decides

pub returns-clause-irrelevant : goal.returns-clause-irrelevant
returns-clause-irrelevant c = irrelevant-Decides

pub returns-clause-check : goal.returns-clause-check
returns-clause-check c = verdict-Decides
