-- What slots are, as the model's, and how they are shown.
-- Rule: expressions; texts (docs/RULES.md).
use Rattle.std.specs.Prelude.{Bool, true, false, codes}
use Rattle.cedar_expr_model.specs.Name.{Text}
use Rattle.cedar_expr_model.specs.Tree as model
use Rattle.cedar_expr_model.specs.Tree.{principal_slot, resource_slot}
use Rattle.cedar_expr_leaves.specs.declared.slot.SlotId.{SlotId}
use Rattle.cedar_expr_leaves.specs.declared.slot.ValidSlotId.{ValidSlotId}
use Rattle.cedar_expr_leaves.specs.declared.slot.ValidSlotId.TheVariants.{Principal, Resource}

abbrev pub valid_slot_of : ValidSlotId → model.SlotId
valid_slot_of Principal = principal_slot
valid_slot_of Resource = resource_slot

-- the slot that a code slot is
abbrev pub slot_of : SlotId → model.SlotId
slot_of s = valid_slot_of s.0

-- which slot it is, as tests
abbrev pub is_principal : model.SlotId → Bool
is_principal principal_slot = true
is_principal resource_slot = false

abbrev pub is_resource : model.SlotId → Bool
is_resource principal_slot = false
is_resource resource_slot = true

-- how a slot is written
abbrev pub slot_text : model.SlotId → Text
slot_text principal_slot = codes "?principal"
slot_text resource_slot = codes "?resource"
