use Rattle.std.proofs.Common.{◌≡◌, ◌++◌, []}
use Rattle.std.specs.Vec.Iter.{into_iter_items}
use Rattle.cedar_store_model.specs.Store.{whole}
use Rattle.cedar_store_entities.specs.Stores.{extent_of, entities_kept}
use Rattle.cedar_store_entities.specs.Uids.{uids_in}
use Rattle.cedar_store_entities.proofs.entities.Entities.from_entities.Given as goal

abbrev pub invariant-loop-entity : goal.invariant-loop-entity
invariant-loop-entity l = record {
  goes : l.fn.entities.items ≡ l.yielded ++ into_iter_items l.entity-iterator;
  kept : entities_kept l.store ≡ l.yielded;
  extent : extent_of l.store.mode ≡ whole;
  none : uids_in l.store.absent ≡ [];
}
