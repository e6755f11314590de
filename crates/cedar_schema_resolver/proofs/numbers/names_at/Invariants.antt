use Rattle.std.proofs.Common.{◌≡◌, ◌++◌, List, ℕ, map}
use Rattle.std.specs.Slice.Iter.{iter_rest}
use Rattle.cedar_schema_resolver.specs.Numbers.{names_in, AreNamesAt}
use Rattle.cedar_schema_resolver.proofs.numbers.names_at.Given as goal

abbrev pub invariant-loop-number : goal.invariant-loop-number
invariant-loop-number g l = record {
  from_back : (put : List ℕ) × (iter_rest l.number-iterator.iter ++ put ≡ l.numbers) × AreNamesAt (names_in g.N.Node.seen l.nodes) put (map g.N.Node.seen l.names.keys);
}
