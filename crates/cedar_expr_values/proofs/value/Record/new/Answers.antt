use Rattle.std.proofs.Common.{map, ap, ◌∙◌}
use Rattle.cedar_expr_model.specs.Records.{in_order}
use Rattle.cedar_expr_model.proofs.Ordering.{in_order_stays, in_order_rises}
use Rattle.cedar_expr_values.specs.Values.{made_fields, made_pair}
use Rattle.cedar_expr_values.proofs.Recorded.{recorded}
use Rattle.cedar_expr_values.proofs.value.Record.new.Goals as goal

pub returns : goal.returns
returns g c =
    let seen = g.X.ExtensionValue.seen in
    let ps = map (made_pair seen) c.args.pairs.items in
    ap (λ m. made_fields (in_order (map (made_pair seen) m.entries))) c.in_ok-fields-2.ensures.ok
    ∙ ap (λ qs. made_fields (in_order qs)) (recorded seen c.in_ok-fields.fields.entries c.args.pairs.items c.in_ok-fields.ensures)
    ∙ ap made_fields (in_order_stays (in_order ps) (in_order_rises ps))
