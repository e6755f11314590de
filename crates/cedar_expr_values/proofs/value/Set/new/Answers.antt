use Rattle.cedar_expr_values.proofs.Derived.{compared_is}
use Rattle.cedar_expr_values.proofs.Members.{new_as_made, new_members, new_rises}
use Rattle.cedar_expr_values.proofs.value.Set.new.Goals as goal

pub of_members-requires : goal.of_members-requires
of_members-requires g c =
    let x = g.X in
    let m = g.met.X in
    let agree = compared_is g.row.X x.ExtensionValue x.ExtensionValue-dict x.Ord x.Ord-dict x.Eq x.Eq-dict x.PartialEq x.PartialEq-dict x.PartialOrd x.PartialOrd-dict x.Destruct-dict
    m.ExtensionValue.ordered in
    new_rises x.ExtensionValue.seen _ agree c.args.values.items c.in_ok-members.members.items c.in_ok-members.ensures

pub returns-clause-as_made : goal.returns-clause-as_made
returns-clause-as_made g c =
    let x = g.X in
    let m = g.met.X in
    let agree = compared_is g.row.X x.ExtensionValue x.ExtensionValue-dict x.Ord x.Ord-dict x.Eq x.Eq-dict x.PartialEq x.PartialEq-dict x.PartialOrd x.PartialOrd-dict x.Destruct-dict
    m.ExtensionValue.ordered in
    new_as_made x.ExtensionValue.seen _ agree c.args.values.items c.in_ok-members.members.items c.of_members.result c.in_ok-members.ensures c.of_members.ensures

pub returns-clause-members : goal.returns-clause-members
returns-clause-members g c = new_members g.X.ExtensionValue.seen c.args.values.items c.of_members.result (returns-clause-as_made g c)
