use Rattle.std.proofs.Common.{◌∙◌}
use Rattle.cedar_expr_leaves.proofs.Literals.{literals_eq_is}
use Rattle.cedar_expr_leaves.proofs.literal.Literal.same.Goals as goal

pub returns : goal.returns
returns c = c.eq.ensures ∙ literals_eq_is c.args.self.now c.args.other.now
