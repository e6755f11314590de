use Rattle.std.proofs.Common.{sym, ap, ◌∙◌}
use Rattle.cedar_store_entities.proofs.Ranged.{parts_in_range, named_in_range}
use Rattle.cedar_store_entities.proofs.laws.parts_are_in_range.Goals as goal

pub returns : goal.returns
returns c =
    named_in_range c.args.parts ∙ ap parts_in_range (sym c.into_iter-part-iterator.ensures.into_iter_gives) ∙ c.loop-part.invariant ∙ ap parts_in_range c.in-None.ensures.steps.0
