use Rattle.std.proofs.Common.{sym, ap, ◌∙◌}
use Rattle.cedar_expr_model.specs.Canonical.{is_disjoint}
use Rattle.cedar_expr_model.specs.Made as model
use Rattle.cedar_expr_values.specs.Values.{bares}
use Rattle.cedar_expr_values.proofs.Derived.{compared_is}
use Rattle.cedar_expr_values.proofs.Looked.{none_is, apart_back}
use Rattle.cedar_expr_values.proofs.Members.{is_disjoint_is, kept_rises}
use Rattle.cedar_expr_values.proofs.value.Set.is_disjoint.Goals as goal

pub returns-then-are_few : goal.returns-then-are_few
returns-then-are_few g c =
    let seen = g.X.ExtensionValue.seen in
    c.has_none.ensures
    ∙ none_is seen (bares seen c.args.other.now) c.authoritative-members.result.now
    ∙ ap (λ ms. is_disjoint (model.bares ms) (bares seen c.args.other.now)) (sym c.authoritative-members.ensures)

pub returns-then-are_few-2 : goal.returns-then-are_few-2
returns-then-are_few-2 g c =
    let seen = g.X.ExtensionValue.seen in
    c.has_none-then-are_few-2.ensures
    ∙ none_is seen (bares seen c.args.self.now) c.authoritative-others.result.now
    ∙ ap (λ ms. is_disjoint (model.bares ms) (bares seen c.args.self.now)) (sym c.authoritative-others.ensures)
    ∙ apart_back (bares seen c.args.other.now) (bares seen c.args.self.now) (kept_rises c.args.other.now) (kept_rises c.args.self.now)

pub returns-else-are_few-2 : goal.returns-else-are_few-2
returns-else-are_few-2 g c =
    let x = g.X in
    let m = g.met.X in
    let agree = compared_is g.row.X x.ExtensionValue x.ExtensionValue-dict x.Ord x.Ord-dict x.Eq x.Eq-dict x.PartialEq x.PartialEq-dict x.PartialOrd x.PartialOrd-dict x.Destruct-dict
    m.ExtensionValue.ordered in
    is_disjoint_is x.ExtensionValue.seen _ agree _ _ c.authoritative-members.result.now c.authoritative-others.result.now _ c.authoritative-members.ensures c.authoritative-others.ensures c.none_among.ensures (kept_rises c.args.self.now)
