use Rattle.std.proofs.Common.{option_map, sym, ap, ◌∙◌, subst}
use Rattle.cedar_expr_names.specs.Views.{name_of}
use Rattle.cedar_schema_resolver.specs.Numbers.{names_in}
use Rattle.cedar_schema_assembly.specs.Lists.{StandOnce, TellsRepeat}
use Rattle.cedar_schema_resolver.specs.Numbers.{StandsTwice}
use Rattle.cedar_schema_assembly.proofs.Lines.{node_names}
use Rattle.cedar_schema_assembly.proofs.type_entries.types_below.Goals as goal

pub returns-in-Some-clause-refused : goal.returns-in-Some-clause-refused
returns-in-Some-clause-refused c =
    let names = ap (names_in name_of) c.deref.ensures.value ∙ node_names c.args.declared.now c.in_ok-nodes.nodes.items c.in_ok-nodes.ensures in
    let told = subst (λ o. TellsRepeat (names_in name_of c.deref.result.now) (option_map (λ n. name_of n.now) o)) c.in-Some.is c.in_ok-name.ensures in
    subst (λ ns. StandsTwice ns (name_of c.in_ok-ty-in-Some.ty)) names (subst (StandsTwice (names_in name_of c.deref.result.now)) (sym c.in_ok-ty-in-Some.ensures.cases.0) told)

pub returns-clause-once : goal.returns-clause-once
returns-clause-once c =
    let names = ap (names_in name_of) c.deref.ensures.value ∙ node_names c.args.declared.now c.in_ok-nodes.nodes.items c.in_ok-nodes.ensures in
    subst StandOnce names (subst (λ o. TellsRepeat (names_in name_of c.deref.result.now) (option_map (λ n. name_of n.now) o)) c.in-None.is c.in_ok-name.ensures)
