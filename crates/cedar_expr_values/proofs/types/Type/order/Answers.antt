use Rattle.std.proofs.Common.{◌∙◌}
use Rattle.cedar_expr_values.proofs.CoreTypes.{types_cmp_is}
use Rattle.cedar_expr_values.proofs.types.Type.order.Goals as goal

pub returns : goal.returns
returns c = c.cmp.ensures ∙ types_cmp_is c.args.self.now c.args.other.now
