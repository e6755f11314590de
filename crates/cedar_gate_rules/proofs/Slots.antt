-- Slots stand in an expression where one of the two does.
use Rattle.std.proofs.Common.{◌≡◌, Bool, true, false, List, [], ◌∷◌, ◌&&◌, ◌==◌, refl}
use Rattle.std.specs.Prelude.{not}
use Rattle.std.specs.List.{list_all, list_any}
use Rattle.cedar_expr_model.specs.Lists.{is_nil}
use Rattle.cedar_expr_model.specs.Parts.{slots}
use Rattle.cedar_expr_model.specs.Shape.{slot_rank}
use Rattle.cedar_expr_model.specs.Tree.{Tree, SlotId, principal_slot, resource_slot}
use Rattle.cedar_store_model.specs.Policy.{all_slots, tree_uses}

never : (b : Bool) → (b && false) ≡ false
never true = refl
never false = refl

one_of_two : (rs : List SlotId) → list_all (λ s. not (list_any (λ r. slot_rank s == slot_rank r) rs)) all_slots ≡ is_nil rs
one_of_two [] = refl
one_of_two (principal_slot ∷ rs) = refl
one_of_two (resource_slot ∷ rs) = never (not (list_any (λ r. slot_rank principal_slot == slot_rank r) rs))

pub no_slots : (t : Tree) → list_all (λ s. not (tree_uses t s)) all_slots ≡ is_nil (slots t)
no_slots t = one_of_two (slots t)
