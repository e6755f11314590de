use Rattle.std.proofs.Common.{◌∙◌}
use Rattle.cedar_expr_names.proofs.Equality.{names_cmp_is}
use Rattle.cedar_expr_names.proofs.internal_name.InternalName.order.Goals as goal

pub returns : goal.returns
returns c = c.cmp.ensures ∙ names_cmp_is c.args.self.now c.args.other.now
