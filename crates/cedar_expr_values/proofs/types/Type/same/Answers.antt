use Rattle.std.proofs.Common.{◌∙◌}
use Rattle.cedar_expr_values.proofs.CoreTypes.{types_eq_is}
use Rattle.cedar_expr_values.proofs.types.Type.same.Goals as goal

pub returns : goal.returns
returns c = c.eq.ensures ∙ types_eq_is c.args.self.now c.args.other.now
