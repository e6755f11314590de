use Rattle.cedar_typechecker_model.proofs.Paths.{paths_are_conjunctions}
use Rattle.cedar_typechecker_model.proofs.laws.paths_are_conjunctions.Goals as goal

pub returns : goal.returns
returns c = paths_are_conjunctions
