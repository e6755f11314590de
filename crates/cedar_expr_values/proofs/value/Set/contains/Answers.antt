use Rattle.std.proofs.Common.{sym}
use Rattle.cedar_expr_values.proofs.Derived.{compared_is}
use Rattle.cedar_expr_values.proofs.Members.{contains_is, kept_rises}
use Rattle.cedar_expr_values.proofs.Hashing.{no_member, no_literal}
use Rattle.cedar_expr_values.proofs.value.Set.contains.Goals as goal

pub returns-in_default : goal.returns-in_default
returns-in_default g c =
    let x = g.X in
    let m = g.met.X in
    let agree = compared_is g.row.X x.ExtensionValue x.ExtensionValue-dict x.Ord x.Ord-dict x.Eq x.Eq-dict x.PartialEq x.PartialEq-dict x.PartialOrd x.PartialOrd-dict x.Destruct-dict
    m.ExtensionValue.ordered in
    contains_is x.ExtensionValue.seen _ agree c.args.value.now _ c.authoritative.result.now _ c.authoritative.ensures c.is_among.ensures (kept_rises c.args.self.now)

pub returns-in_default-kind : goal.returns-in_default-kind
returns-in_default-kind g c = sym (no_member _ _ (no_literal g.X.ExtensionValue.seen c.args.value.now.kind c.in_default-kind.not-Lit) (sym c.in-Some.ensures.literals))
