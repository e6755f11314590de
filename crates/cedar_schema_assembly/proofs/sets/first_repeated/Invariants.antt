use Rattle.std.proofs.Common.{map, take}
use Rattle.cedar_schema_resolver.specs.Numbers.{names_in}
use Rattle.cedar_schema_assembly.specs.Lists.{IsSetOf, StandOnce}
use Rattle.cedar_schema_assembly.proofs.sets.first_repeated.Given as goal

abbrev pub invariant-loop-node : goal.invariant-loop-node
invariant-loop-node g l = record {
  met : IsSetOf (names_in g.N.Node.seen (take l.node-index l.nodes)) (map g.N.Node.seen l.met.keys);
  once : StandOnce (names_in g.N.Node.seen (take l.node-index l.nodes));
}
