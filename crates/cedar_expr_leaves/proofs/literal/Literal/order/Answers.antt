use Rattle.std.proofs.Common.{◌∙◌}
use Rattle.cedar_expr_leaves.proofs.Literals.{literals_cmp_is}
use Rattle.cedar_expr_leaves.proofs.literal.Literal.order.Goals as goal

pub returns : goal.returns
returns c = c.cmp.ensures ∙ literals_cmp_is c.args.self.now c.args.other.now
