use Rattle.cedar_expr_model.proofs.UidComputed.{awkward_is}
use Rattle.cedar_expr_model.proofs.name_worked.worked_uid_text.Goals as goal

pub returns : goal.returns
returns c = awkward_is
