use Rattle.cedar_typechecker_model.proofs.Alike.Policies.{types_alike, counts_alike, environments_alike}
use Rattle.cedar_typechecker_model.proofs.alike_laws.expressions_are_alike.Goals as goal

pub returns-clause-types : goal.returns-clause-types
returns-clause-types c = types_alike

pub returns-clause-counts : goal.returns-clause-counts
returns-clause-counts c = counts_alike

pub returns-clause-environments : goal.returns-clause-environments
returns-clause-environments c = environments_alike
