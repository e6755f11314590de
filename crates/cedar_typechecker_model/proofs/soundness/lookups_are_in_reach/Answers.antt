use Rattle.cedar_typechecker_model.proofs.InReach.{lookups_are_in_reach, conditions_are_in_reach}
use Rattle.cedar_typechecker_model.proofs.soundness.lookups_are_in_reach.Goals as goal

pub returns-clause-expressions : goal.returns-clause-expressions
returns-clause-expressions c = lookups_are_in_reach

pub returns-clause-conditions : goal.returns-clause-conditions
returns-clause-conditions c = conditions_are_in_reach
