use Rattle.cedar_expr_model.proofs.Equality.{texts_eq-Decides, name_eq-Decides}
use Rattle.cedar_expr_model.proofs.name_laws.names_decide.Goals as goal

pub returns-clause-texts : goal.returns-clause-texts
returns-clause-texts c = texts_eq-Decides

pub returns-clause-names : goal.returns-clause-names
returns-clause-names c = name_eq-Decides
