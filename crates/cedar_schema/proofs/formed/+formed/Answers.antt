use Rattle.std.proofs.Common.{ap}
use Rattle.cedar_schema_types.specs.Types.{entries_of}
use Rattle.cedar_schema.proofs.Going.{all_formed, formed_ends, all_attributes_formed}
use Rattle.cedar_schema.proofs.formed.+formed.Goals as goal

pub attributes_are_formed-returns : goal.attributes_are_formed-returns
attributes_are_formed-returns t c =
    all_attributes_formed c.args.attrs.now c.deref.result.now.entries (ap (λ m. m.entries) c.deref.ensures) c.iter-name-items.ensures.ordered
    (formed_ends c.loop-name._name-iterator (all_formed (entries_of c.args.attrs.now)) c.loop-name.invariant c.in-None.ensures.steps.0)
