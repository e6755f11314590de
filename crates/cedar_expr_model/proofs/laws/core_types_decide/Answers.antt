use Rattle.cedar_expr_model.proofs.CoreTypes.{core_eq-Decides, fits-Decides}
use Rattle.cedar_expr_model.proofs.laws.core_types_decide.Goals as goal

pub returns-clause-types : goal.returns-clause-types
returns-clause-types c = core_eq-Decides

pub returns-clause-annotations : goal.returns-clause-annotations
returns-clause-annotations c = fits-Decides
