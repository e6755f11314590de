use Rattle.std.proofs.Common.{option_map, sym, ap, ◌∙◌, subst}
use Rattle.cedar_expr_names.specs.Views.{uid_of}
use Rattle.cedar_schema_resolver.specs.Numbers.{names_in}
use Rattle.cedar_schema_assembly.specs.Lists.{StandOnce, TellsRepeat}
use Rattle.cedar_schema_resolver.specs.Numbers.{StandsTwice}
use Rattle.cedar_schema_assembly.proofs.Lines.{node_uids}
use Rattle.cedar_schema_assembly.proofs.action_entries.actions_below.Goals as goal

pub returns-in-Some-clause-refused : goal.returns-in-Some-clause-refused
returns-in-Some-clause-refused c =
    let names = ap (names_in uid_of) c.deref.ensures.value ∙ node_uids c.args.declared.now c.in-Ok.nodes.items c.in-Ok.ensures.made in
    let told = subst (λ o. TellsRepeat (names_in uid_of c.deref.result.now) (option_map (λ n. uid_of n.now) o)) c.in-Some.is c.in_ok-uid.ensures in
    subst (λ ns. StandsTwice ns (uid_of c.in_ok-uid-in-Some.uid)) names (subst (StandsTwice (names_in uid_of c.deref.result.now)) (sym c.in_ok-uid-in-Some.ensures.cases.0) told)

pub returns-clause-once : goal.returns-clause-once
returns-clause-once c =
    let names = ap (names_in uid_of) c.deref.ensures.value ∙ node_uids c.args.declared.now c.in-Ok.nodes.items c.in-Ok.ensures.made in
    subst StandOnce names (subst (λ o. TellsRepeat (names_in uid_of c.deref.result.now) (option_map (λ n. uid_of n.now) o)) c.in-None.is c.in_ok-uid.ensures)
