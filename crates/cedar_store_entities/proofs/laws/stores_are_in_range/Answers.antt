use Rattle.std.proofs.Common.{sym, ap, ◌∙◌}
use Rattle.std.proofs.lemmas.List.{nil_from_length}
use Rattle.std.specs.Slice.Iter.{iter_rest}
use Rattle.cedar_store_entities.proofs.Ranged.{all_in_range, store_in_range}
use Rattle.cedar_store_entities.proofs.laws.stores_are_in_range.Goals as goal

pub returns : goal.returns
returns c =
    store_in_range c.args.store.now (iter_rest c.iter-entity-items.result) c.iter-entity-items.ensures.seen
    (ap (λ it. all_in_range (iter_rest it)) (sym c.into_iter-entity-iterator.ensures.into_iter_gives) ∙ c.loop-entity.invariant ∙ ap all_in_range (nil_from_length (iter_rest c.loop-entity.entity-iterator) c.in-None.ensures.steps.0))
