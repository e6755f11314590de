use Rattle.std.proofs.Common.{refl}
use Rattle.cedar_schema_entries.proofs.InOrder.{texts_rise, type_ordered}
use Rattle.cedar_schema_entries.proofs.laws.entity_types_are_in_order.Goals as goal

pub returns-in-Enum : goal.returns-in-Enum
returns-in-Enum c = type_ordered c.args.entity_type.now _ c.in-Enum.is (texts_rise c.in-Enum.members.keys c.iter-members.ensures.ordered) c.iter-descendants.ensures.ordered

pub returns-in-Standard : goal.returns-in-Standard
returns-in-Standard c = type_ordered c.args.entity_type.now _ c.in-Standard.is refl c.iter-descendants.ensures.ordered

pub returns-in-External : goal.returns-in-External
returns-in-External c = type_ordered c.args.entity_type.now _ c.in-External.is refl c.iter-descendants.ensures.ordered
