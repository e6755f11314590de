use Rattle.std.proofs.Common.{◌∙◌}
use Rattle.cedar_expr_names.proofs.Equality.{uids_cmp_is}
use Rattle.cedar_expr_names.proofs.entity.EntityUID.order.Goals as goal

pub returns : goal.returns
returns c = c.cmp.ensures ∙ uids_cmp_is c.args.self.now c.args.other.now
