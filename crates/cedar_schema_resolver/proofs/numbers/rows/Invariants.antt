use Rattle.std.proofs.Common.{◌≡◌, map, take}
use Rattle.std.specs.BTreeMap.{get}
use Rattle.cedar_schema_resolver.specs.Numbers.{rows_of}
use Rattle.cedar_schema_resolver.proofs.numbers.rows.Given as goal

abbrev pub invariant-loop-node : goal.invariant-loop-node
invariant-loop-node g l = map (λ r. r.items) l.rows.items ≡ rows_of (get g.N.Ord.cmp l.numbers) (take l.node-index l.nodes)
