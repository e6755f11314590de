use Rattle.std.proofs.Common.{fold, ap, ◌∙◌}
use Rattle.cedar_expr_shapes.proofs.Feeding.{elements_fed}
use Rattle.cedar_expr_shapes.proofs.fed.feed_pattern.Goals as goal

pub returns : goal.returns
returns g c = c.hash.ensures ∙ ap (fold g.H.Hasher.write c.args.state.now) (elements_fed c.args.pattern.now.elems.value.items)
