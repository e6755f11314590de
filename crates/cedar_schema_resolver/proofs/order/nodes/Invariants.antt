use Rattle.std.proofs.Common.{◌≡◌, take}
use Rattle.cedar_schema_resolver.proofs.Ranking.{nodes_of}
use Rattle.cedar_schema_resolver.proofs.order.nodes.Given as goal

abbrev pub invariant-loop-rank : goal.invariant-loop-rank
invariant-loop-rank l = l.nodes.items ≡ nodes_of (take l.rank-index l.ranks)
