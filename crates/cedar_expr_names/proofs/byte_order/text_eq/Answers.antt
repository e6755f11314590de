use Rattle.std.proofs.Common.{ap, ◌∙◌, rules}
use Rattle.std.specs.Ordering.{is_eq}
use Rattle.std.proofs.lemmas.Map.Text.{is_eq-slice_cmp}
use Rattle.cedar_expr_names.proofs.byte_order.text_eq.Goals as goal

pub returns : goal.returns
returns c =
    let same = c.is_eq.ensures ∙ ap is_eq c.byte_order.ensures ∙ is_eq-slice_cmp c.as_bytes.result.now c.as_bytes-2.result.now in
    search (rules, same)
