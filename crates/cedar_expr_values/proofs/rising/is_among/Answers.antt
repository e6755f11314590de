use Rattle.std.proofs.Common.{◌∙◌}
use Rattle.cedar_expr_values.proofs.Searched.{searched}
use Rattle.cedar_expr_values.proofs.rising.is_among.Goals as goal

pub returns : goal.returns
returns g c s = c.is_ok.ensures.value ∙ searched g.met.T.Ord.total c.args.value.now c.args.values.now c.binary_search.result c.binary_search.ensures.bound c.binary_search.ensures.position s
