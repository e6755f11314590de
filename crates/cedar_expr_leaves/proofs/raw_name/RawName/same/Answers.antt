-- Names with one text are one name.
use Rattle.std.proofs.Common.{◌∙◌}
use Rattle.cedar_expr_names.proofs.Equality.{names_eq_is}
use Rattle.cedar_expr_leaves.proofs.raw_name.RawName.same.Goals as goal

pub returns : goal.returns
returns c = c.eq.ensures ∙ names_eq_is c.args.self.now.0 c.args.other.now.0
