use Rattle.std.proofs.Common.{ap, ◌∙◌}
use Rattle.std.specs.Ordering.{is_eq}
use Rattle.cedar_expr_values.proofs.Derived.{compared_is, equal_is}
use Rattle.cedar_expr_values.proofs.laws.values_are_compared.Goals as goal

pub returns-clause-order : goal.returns-clause-order
returns-clause-order g c =
    let x = g.X in
    let m = g.met.X in
    compared_is g.row.X x.ExtensionValue x.ExtensionValue-dict x.Ord x.Ord-dict x.Eq x.Eq-dict x.PartialEq x.PartialEq-dict x.PartialOrd x.PartialOrd-dict x.Destruct-dict
    m.ExtensionValue.ordered

pub returns-clause-equality : goal.returns-clause-equality
returns-clause-equality g c =
    let x = g.X in
    let m = g.met.X in
    equal_is g.row.X x.ExtensionValue x.ExtensionValue-dict x.Ord x.Ord-dict x.Eq x.Eq-dict x.PartialEq x.PartialEq-dict x.PartialOrd x.PartialOrd-dict x.Destruct-dict
    (λ a b. m.Ord.matches_eq a b ∙ ap is_eq (m.ExtensionValue.ordered a b))
