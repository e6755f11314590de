use Rattle.std.proofs.Common.{fold, ap, ◌∙◌}
use Rattle.std.specs.Hash as fed
use Rattle.cedar_expr_names.proofs.Equality.{text_is}
use Rattle.cedar_expr_shapes.proofs.fed.feed_name.Goals as goal

pub returns : goal.returns
returns g c = c.hash.ensures ∙ ap (λ s. fold g.H.Hasher.write c.args.state.now (fed.str s)) (text_is c.args.name.now.internal)
