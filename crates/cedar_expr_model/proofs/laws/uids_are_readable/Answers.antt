use Rattle.cedar_expr_model.proofs.UidRead.{uid_read, uids_are_read}
use Rattle.cedar_expr_model.proofs.laws.uids_are_readable.Goals as goal

pub returns : goal.returns
returns c = (uid_read, uids_are_read)
