use Rattle.std.proofs.Common.{subst}
use Rattle.cedar_schema_resolver.specs.Numbers.{TellsRepeated, names_in}
use Rattle.cedar_schema_resolver.proofs.Places.{stood_twice}
use Rattle.cedar_schema_assembly.proofs.sets.below.Goals as goal

pub unreachable-requires : goal.unreachable-requires
unreachable-requires g c =
    let names = names_in g.N.Node.seen c.args.nodes.now in
    c.requires.none (stood_twice names c.in-Err-Repeated.field-0-0 (subst (TellsRepeated names) c.in-Err-Repeated.field-0-is c.in-Err-Repeated.ensures.repeated))
