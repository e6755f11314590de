use Rattle.cedar_typechecker_model.proofs.Sound.Orderly.{schemas_are_orderly}
use Rattle.cedar_typechecker_model.proofs.Sound.Typed.{types_are_simple}
use Rattle.cedar_typechecker_model.proofs.soundness.types_are_simple.Goals as goal

pub returns-clause-schemas : goal.returns-clause-schemas
returns-clause-schemas c = schemas_are_orderly

pub returns-clause-types : goal.returns-clause-types
returns-clause-types c = λ s x e known t ty out o h d. types_are_simple s x e o h known t ty out d
