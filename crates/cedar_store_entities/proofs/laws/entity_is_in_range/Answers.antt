use Rattle.cedar_store_entities.proofs.Ranged.{entity_in_range}
use Rattle.cedar_store_entities.proofs.laws.entity_is_in_range.Goals as goal

pub returns : goal.returns
returns c = entity_in_range c.args.entity.now _ _ c.attrs.ensures.values c.tags.ensures.values c.parts_are_in_range.ensures c.parts_are_in_range-2.ensures
