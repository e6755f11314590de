use Rattle.std.specs.BTreeMap.{get}
use Rattle.cedar_schema_resolver.specs.Numbers.{names_in}
use Rattle.cedar_schema_resolver.proofs.Numbering.{Numbered}
use Rattle.cedar_schema_resolver.proofs.numbers.numbers.Given as goal

abbrev pub invariant-loop-number : goal.invariant-loop-number
invariant-loop-number g l = record { numbered : Numbered g.N.Node.seen (names_in g.N.Node.seen l.nodes) l.number (get g.N.Ord.cmp l.numbers) }
