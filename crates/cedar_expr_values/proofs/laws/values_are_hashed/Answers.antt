-- Values that are the same in the model are equal, and equal ones are hashed alike.
use Rattle.std.proofs.Common.{ap, ◌∙◌}
use Rattle.std.specs.Ordering.{is_eq}
use Rattle.std.proofs.lemmas.Cmp.{tied_itself}
use Rattle.cedar_expr_model.specs.Order.{value_eq}
use Rattle.cedar_expr_model.proofs.ValueOrder.{value_linear}
use Rattle.cedar_expr_values.specs.Values.{bare}
use Rattle.cedar_expr_values.specs.contracts.value.ValueHash.TheImpl.Laws as hash_laws
use Rattle.cedar_expr_values.proofs.Derived.{equal_is}
use Rattle.cedar_expr_values.proofs.laws.values_are_hashed.Goals as goal

pub returns : goal.returns
returns g c v w e =
    let x = g.X in
    let m = g.met.X in
    let seen = x.ExtensionValue.seen in
    hash_laws.respects_eq-law g.row.X x.ExtensionValue x.ExtensionValue-dict x.Ord x.Ord-dict x.Eq x.Eq-dict x.PartialEq x.PartialEq-dict x.PartialOrd x.PartialOrd-dict x.Hash x.Hash-dict
    x.Destruct-dict record { ordered = m.ExtensionValue.ordered }
    record { total = m.Ord.total; matches_partial_cmp = m.Ord.matches_partial_cmp; matches_eq = m.Ord.matches_eq } record { laws = m.Eq.laws } record { laws = m.PartialEq.laws }
    record { laws = m.PartialOrd.laws } record { respects_eq = m.Hash.respects_eq } v w
    (equal_is g.row.X x.ExtensionValue x.ExtensionValue-dict x.Ord x.Ord-dict x.Eq x.Eq-dict x.PartialEq x.PartialEq-dict x.PartialOrd x.PartialOrd-dict x.Destruct-dict
    (λ a b. m.Ord.matches_eq a b ∙ ap is_eq (m.ExtensionValue.ordered a b)) v w
    ∙ ap (λ u. value_eq u (bare seen w)) e
    ∙ ap is_eq (tied_itself value_linear.total (bare seen w)))
