use Rattle.std.proofs.Common.{◌≡◌, length, take}
use Rattle.std.specs.Vec.Iter.{into_iter_items}
use Rattle.cedar_store_entities.specs.Stores.{entities_kept, with_new}
use Rattle.cedar_store_entities.proofs.entities.Entities.put_each_new.Given as goal

abbrev pub invariant-loop-entity : goal.invariant-loop-entity
invariant-loop-entity l = record {
  added : with_new (entities_kept l.self) (into_iter_items l.entity-iterator) ≡ with_new (entities_kept l.initial.self) l.fn.entities.items;
  kept : take (length (entities_kept l.initial.self)) (entities_kept l.self) ≡ entities_kept l.initial.self;
  mode : l.self.mode ≡ l.initial.self.mode;
  absent : l.self.absent ≡ l.initial.self.absent;
}
