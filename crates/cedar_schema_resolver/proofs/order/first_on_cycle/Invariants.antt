use Rattle.std.proofs.Common.{ℕ, ◌<◌}
use Rattle.cedar_schema_resolver.specs.Graphs.{HasEdge}
use Rattle.cedar_schema_resolver.proofs.order.first_on_cycle.Given as goal

abbrev pub invariant-loop-node : goal.invariant-loop-node
invariant-loop-node l = (i : ℕ) → i < l.node-counter → HasEdge l.rows i i → ⊥
