use Rattle.cedar_typechecker_model.proofs.Alike.Policies.{violations_alike, levels_alike}
use Rattle.cedar_typechecker_model.proofs.alike_laws.levels_are_alike.Goals as goal

pub returns-clause-violations : goal.returns-clause-violations
returns-clause-violations c = violations_alike

pub returns-clause-none : goal.returns-clause-none
returns-clause-none c = levels_alike
