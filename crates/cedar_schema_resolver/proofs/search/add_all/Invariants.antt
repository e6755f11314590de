use Rattle.std.proofs.Common.{◌≡◌, length, drop}
use Rattle.cedar_schema_resolver.specs.Found.{AreMarks, with_nodes}
use Rattle.cedar_schema_resolver.proofs.search.add_all.Given as goal

abbrev pub invariant-loop-node : goal.invariant-loop-node
invariant-loop-node l = record {
  marks : AreMarks l.marks.items l.found.items;
  size : length l.marks.items ≡ length l.fn.marks.items;
  found : with_nodes (drop l.node-index l.nodes) l.found.items ≡ with_nodes l.nodes l.fn.found.items;
}
