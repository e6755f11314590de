use Rattle.cedar_expr_model.proofs.Equality.{uid_eq-Decides}
use Rattle.cedar_expr_model.proofs.name_laws.uids_decide.Goals as goal

pub returns : goal.returns
returns c = uid_eq-Decides
