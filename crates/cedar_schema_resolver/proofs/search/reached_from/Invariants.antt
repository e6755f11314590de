use Rattle.std.proofs.Common.{◌≡◌, length}
use Rattle.cedar_schema_resolver.specs.Found.{AreMarks}
use Rattle.cedar_schema_resolver.proofs.Searching.{Searching}
use Rattle.cedar_schema_resolver.proofs.search.reached_from.Given as goal

abbrev pub invariant-loop-step : goal.invariant-loop-step
invariant-loop-step l = record {
  marks : AreMarks l.marks.items l.found.items;
  size : length l.marks.items ≡ length l.graph;
  found : Searching l.graph l.start l.step l.found.items;
}
