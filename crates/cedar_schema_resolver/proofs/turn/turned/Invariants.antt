use Rattle.std.proofs.Common.{◌≡◌, length}
use Rattle.cedar_schema_resolver.proofs.Turning.{TurnedTo}
use Rattle.cedar_schema_resolver.proofs.turn.turned.Given as goal

abbrev pub invariant-loop-node : goal.invariant-loop-node
invariant-loop-node l = record {
  size : length l.rows.items ≡ length l.graph;
  edges : TurnedTo l.graph l.rows.items l.node;
}
