use Rattle.cedar_expr_values.proofs.Ranged.{each_is_uid}
use Rattle.cedar_store_entities.proofs.laws.uids_are_uids.Goals as goal

pub returns : goal.returns
returns c = each_is_uid
