use Rattle.std.proofs.Common.{◌≡◌, [], length}
use Rattle.cedar_schema_resolver.specs.Found.{AreMarks}
use Rattle.cedar_schema_resolver.proofs.Searching.{AreRows}
use Rattle.cedar_schema_resolver.proofs.closures.closure.Given as goal

abbrev pub invariant-loop-start : goal.invariant-loop-start
invariant-loop-start l = record {
  size : length l.rows.items ≡ l.start;
  each : AreRows l.graph l.rows.items;
  marks : AreMarks l.marks.items [];
  room : length l.marks.items ≡ length l.graph;
}
