use Rattle.std.proofs.Common.{◌∙◌}
use Rattle.cedar_expr_values.proofs.Derived.{compared_is}
use Rattle.cedar_expr_values.proofs.value.Value.order.Goals as goal

pub returns : goal.returns
returns g c =
    let x = g.X in
    let m = g.met.X in
    c.cmp.ensures
    ∙ compared_is g.row.X x.ExtensionValue x.ExtensionValue-dict x.Ord x.Ord-dict x.Eq x.Eq-dict x.PartialEq x.PartialEq-dict x.PartialOrd x.PartialOrd-dict x.Destruct-dict
    m.ExtensionValue.ordered c.args.self.now c.args.other.now
