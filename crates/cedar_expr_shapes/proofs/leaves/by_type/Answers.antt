use Rattle.std.proofs.Common.{◌∙◌}
use Rattle.cedar_expr_names.proofs.Equality.{names_order_is}
use Rattle.cedar_expr_shapes.proofs.leaves.by_type.Goals as goal

pub returns : goal.returns
returns c = c.cmp.ensures ∙ names_order_is c.args.left.now.0.internal c.args.right.now.0.internal
