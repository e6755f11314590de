use Rattle.cedar_typechecker_model.proofs.Alike.Policies.{passing_alike, warnings_alike, impossible_alike, irrelevant_alike}
use Rattle.cedar_typechecker_model.proofs.alike_laws.verdicts_are_alike.Goals as goal

pub returns-clause-passing : goal.returns-clause-passing
returns-clause-passing c = passing_alike

pub returns-clause-warnings : goal.returns-clause-warnings
returns-clause-warnings c = warnings_alike

pub returns-clause-impossible : goal.returns-clause-impossible
returns-clause-impossible c = impossible_alike

pub returns-clause-irrelevant : goal.returns-clause-irrelevant
returns-clause-irrelevant c = irrelevant_alike
