use Rattle.std.proofs.Common.{◌≡◌, length, drop}
use Rattle.cedar_schema_resolver.proofs.Finding.{AreLeft}
use Rattle.cedar_schema_resolver.proofs.search.unmark.Given as goal

abbrev pub invariant-loop-node : goal.invariant-loop-node
invariant-loop-node l = record {
  left : AreLeft l.marks.items (drop l.node-index l.found);
  size : length l.marks.items ≡ length l.fn.marks.items;
}
