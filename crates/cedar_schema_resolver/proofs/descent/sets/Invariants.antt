use Rattle.std.proofs.Common.{map}
use Rattle.cedar_schema_resolver.specs.Numbers.{names_in}
use Rattle.cedar_schema_resolver.proofs.Graphing.{SetsTo}
use Rattle.cedar_schema_resolver.proofs.descent.sets.Given as goal

abbrev pub invariant-loop-row : goal.invariant-loop-row
invariant-loop-row g l = record { sets : SetsTo (names_in g.N.Node.seen l.nodes) l.graph l.row-index (map (λ s. map g.N.Node.seen s.keys) l.sets.items) }
