use Rattle.std.proofs.Common.{◌≡◌, ◌++◌, drop}
use Rattle.cedar_schema_resolver.specs.Ranks.{ranks_from}
use Rattle.cedar_schema_resolver.proofs.order.ranks.Given as goal

abbrev pub invariant-loop-node : goal.invariant-loop-node
invariant-loop-node l = l.ranks.items ++ ranks_from (drop l.node l.rows) l.node ≡ ranks_from l.rows 0
