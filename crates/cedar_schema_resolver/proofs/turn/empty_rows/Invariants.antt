use Rattle.std.proofs.Common.{◌≡◌, length}
use Rattle.cedar_schema_resolver.specs.Rows.{HasEmptyRows}
use Rattle.cedar_schema_resolver.proofs.turn.empty_rows.Given as goal

abbrev pub invariant-loop : goal.invariant-loop
invariant-loop l = record {
  size : length l.rows.items ≡ l.counter;
  empty : HasEmptyRows l.rows.items;
}
