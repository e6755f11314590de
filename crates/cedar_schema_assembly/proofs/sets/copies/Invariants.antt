use Rattle.std.proofs.Common.{◌≡◌, map, take}
use Rattle.cedar_schema_assembly.proofs.sets.copies.Given as goal

abbrev pub invariant-loop-name : goal.invariant-loop-name
invariant-loop-name g l = map g.N.Node.seen l.copies.items ≡ map g.N.Node.seen (take l.name-index l.names)
