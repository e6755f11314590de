use Rattle.std.proofs.Common.{ap, ◌∙◌}
use Rattle.std.specs.Ordering.{is_eq}
use Rattle.cedar_expr_values.proofs.Derived.{equal_is}
use Rattle.cedar_expr_values.proofs.value.Value.same.Goals as goal

pub returns : goal.returns
returns g c =
    let x = g.X in
    let m = g.met.X in
    c.eq.ensures
    ∙ equal_is g.row.X x.ExtensionValue x.ExtensionValue-dict x.Ord x.Ord-dict x.Eq x.Eq-dict x.PartialEq x.PartialEq-dict x.PartialOrd x.PartialOrd-dict x.Destruct-dict
    (λ a b. m.Ord.matches_eq a b ∙ ap is_eq (m.ExtensionValue.ordered a b)) c.args.self.now c.args.other.now
