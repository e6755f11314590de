use Rattle.std.proofs.Common.{◌≡◌, ◌++◌, map}
use Rattle.std.specs.Vec.Iter.{into_iter_items}
use Rattle.cedar_store_entities.specs.Views.{part_pair, value_pair, placed_part, placed_value}
use Rattle.cedar_store_entities.proofs.entity.as_partial.Given as goal

abbrev pub invariant-loop-name : goal.invariant-loop-name
invariant-loop-name l =
    (map part_pair l.partial.items ++ map value_pair (into_iter_items l.name-iterator) ≡ map value_pair l.fn.pairs.items)
    × (map placed_part l.partial.items ++ map placed_value (into_iter_items l.name-iterator) ≡ map placed_value l.fn.pairs.items)
