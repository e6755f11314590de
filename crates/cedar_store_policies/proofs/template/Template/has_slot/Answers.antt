use Rattle.std.proofs.Common.{◌==◌, ap, ◌∙◌}
use Rattle.std.specs.List.{list_any}
use Rattle.cedar_expr_leaves.specs.Slots.{slot_of}
use Rattle.cedar_expr_leaves.specs.declared.slot.Slot.{Slot}
use Rattle.cedar_expr_model.specs.Shape.{slot_rank}
use Rattle.cedar_store_policies.proofs.Bound.{slots_used}
use Rattle.cedar_store_policies.proofs.template.Template.has_slot.Goals as goal

pub returns : goal.returns
returns c =
    let s = slot_of c.args.slot in
    slots_used s c.args.self.now.slots.items c.stands_among.result _ (c.stands_among.ensures ∙ ap (list_any (λ (r : Slot). slot_rank s == slot_rank (slot_of r.id))) c.as_slice.ensures.value) c.args.self.now.gathered
