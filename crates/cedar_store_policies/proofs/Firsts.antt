-- An expression without a first slot has none.
use Rattle.std.proofs.Common.{◌≡◌, List, [], ◌∷◌, Option, None, option_map, true, refl, sym, ap, ◌∙◌}
use Rattle.cedar_expr_leaves.specs.Slots.{slot_of}
use Rattle.cedar_expr_leaves.specs.declared.slot.Slot.{Slot}
use Rattle.cedar_expr_model.specs.Lists.{is_nil}
use Rattle.cedar_expr_model.specs.Tree.{SlotId}
use Rattle.cedar_store_policies.specs.Lists.{first_of}

none_first : {A : Type 0} (xs : List A) → None ≡ first_of xs → is_nil xs ≡ true
none_first [] h = refl
none_first (x ∷ xs) h = cc

pub no_slot : (ss : List SlotId) (r : Option Slot) → r ≡ None → option_map (λ s. slot_of s.id) r ≡ first_of ss → is_nil ss ≡ true
no_slot ss r n h = none_first ss (sym (ap (option_map (λ (s : Slot). slot_of s.id)) n) ∙ h)
