use Rattle.std.proofs.Common.{length, ap, sym, ◌∙◌}
use Rattle.cedar_expr_model.specs.Value.{values_list}
use Rattle.cedar_expr_model.specs.Made.{bares}
use Rattle.cedar_expr_values.proofs.Members.{length_is}
use Rattle.cedar_expr_values.proofs.value.Set.len.Goals as goal

pub returns : goal.returns
returns g c = length_is g.X.ExtensionValue.seen c.authoritative.result.now ∙ ap (λ ms. length (values_list (bares ms))) (sym c.authoritative.ensures)
