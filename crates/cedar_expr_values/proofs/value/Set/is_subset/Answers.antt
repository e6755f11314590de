use Rattle.std.proofs.Common.{sym, ap, ap₂, ◌∙◌}
use Rattle.cedar_expr_model.specs.Canonical.{are_rising, is_subset}
use Rattle.cedar_expr_model.specs.Made as model
use Rattle.cedar_expr_values.specs.Values.{bares}
use Rattle.cedar_expr_values.proofs.Derived.{compared_is}
use Rattle.cedar_expr_values.proofs.Looked.{each_is, too_many}
use Rattle.cedar_expr_values.proofs.Members.{is_subset_is, kept_rises}
use Rattle.cedar_expr_values.proofs.value.Set.is_subset.Goals as goal

pub returns-then-members-others : goal.returns-then-members-others
returns-then-members-others g c =
    let seen = g.X.ExtensionValue.seen in
    sym (ap₂ (λ ms ns. is_subset (model.bares ms) (model.bares ns)) c.authoritative-members.ensures c.authoritative-others.ensures
    ∙ too_many seen c.authoritative-members.result.now c.authoritative-others.result.now (sym (ap (λ ms. are_rising (model.bares ms)) c.authoritative-members.ensures) ∙ kept_rises c.args.self.now)
    c.if-members-others.true)

pub returns-then-are_few : goal.returns-then-are_few
returns-then-are_few g c =
    let seen = g.X.ExtensionValue.seen in
    c.has_each.ensures
    ∙ each_is seen (bares seen c.args.other.now) c.authoritative-members.result.now
    ∙ ap (λ ms. is_subset (model.bares ms) (bares seen c.args.other.now)) (sym c.authoritative-members.ensures)

pub returns-else-are_few : goal.returns-else-are_few
returns-else-are_few g c =
    let x = g.X in
    let m = g.met.X in
    let agree = compared_is g.row.X x.ExtensionValue x.ExtensionValue-dict x.Ord x.Ord-dict x.Eq x.Eq-dict x.PartialEq x.PartialEq-dict x.PartialOrd x.PartialOrd-dict x.Destruct-dict
    m.ExtensionValue.ordered in
    is_subset_is x.ExtensionValue.seen _ agree _ _ c.authoritative-members.result.now c.authoritative-others.result.now _ c.authoritative-members.ensures c.authoritative-others.ensures c.all_among.ensures (kept_rises c.args.self.now)
