use Rattle.std.proofs.Common.{◌∙◌}
use Rattle.cedar_expr_names.proofs.Equality.{uids_eq_is}
use Rattle.cedar_expr_names.proofs.entity.EntityUID.same.Goals as goal

pub returns : goal.returns
returns c = c.eq.ensures ∙ uids_eq_is c.args.self.now c.args.other.now
