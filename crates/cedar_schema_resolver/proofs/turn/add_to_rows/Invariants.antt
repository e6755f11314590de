use Rattle.std.proofs.Common.{◌≡◌, take, length}
use Rattle.cedar_schema_resolver.specs.Rows.{HasAdded}
use Rattle.cedar_schema_resolver.proofs.turn.add_to_rows.Given as goal

abbrev pub invariant-loop-target : goal.invariant-loop-target
invariant-loop-target l = record {
  size : length l.rows.items ≡ length l.fn.rows.items;
  added : HasAdded l.fn.rows.items l.rows.items (take l.target-index l.at) l.node;
}
