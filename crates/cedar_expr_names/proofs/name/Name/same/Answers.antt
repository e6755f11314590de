use Rattle.std.proofs.Common.{◌∙◌}
use Rattle.cedar_expr_names.proofs.Equality.{names_eq_is}
use Rattle.cedar_expr_names.proofs.name.Name.same.Goals as goal

pub returns : goal.returns
returns c = c.eq.ensures ∙ names_eq_is c.args.self.now.internal c.args.other.now.internal
