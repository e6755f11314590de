use Rattle.std.proofs.Common.{◌≡◌}
use Rattle.std.specs.Slice.Iter.{iter_rest}
use Rattle.cedar_store_entities.proofs.Ranged.{all_in_range}
use Rattle.cedar_store_entities.proofs.laws.stores_are_in_range.Given as goal

abbrev pub invariant-loop-entity : goal.invariant-loop-entity
invariant-loop-entity l = all_in_range (iter_rest l.initial.entity-iterator) ≡ all_in_range (iter_rest l.entity-iterator)
