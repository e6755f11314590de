-- What the refusals of policies say.
-- Rule: policies and templates (docs/RULES.md).
use Rattle.std.specs.Prelude.{◌≡◌, List, Option, Some}
use Rattle.cedar_expr_leaves.specs.Slots.{slot_of}
use Rattle.cedar_expr_model.specs.Parts.{slots}
use Rattle.cedar_expr_model.specs.Tree.{SlotId}
use Rattle.cedar_expr_names.specs.declared.loc.Loc.{Loc}
use Rattle.cedar_expr_trees.specs.Positions.{slot_placed}
use Rattle.cedar_store_model.specs.Policy.{Policy, condition}
use Rattle.cedar_store_policies.specs.Lists.{first_of}
use Rattle.cedar_store_parts.specs.declared.err.UnexpectedSlotError.{UnexpectedSlotError}
use Rattle.cedar_store_parts.specs.declared.err.UnexpectedSlotError.TheVariants.{OutOfMemory, FoundSlot}

-- The fault is there where a policy should have no slots: it is the first slot of its condition. Out of memory says nothing.
abbrev pub RefusesSlot : Policy → UnexpectedSlotError → Type 0
RefusesSlot p OutOfMemory = Unit {0}
RefusesSlot p (FoundSlot s) = first_of (slots (condition p)) ≡ Some (slot_of s.id)

-- The fault is there where there should be no slots: it is the first of these, with its place. Out of memory says nothing.
abbrev pub RefusesSlotAt : List (SlotId × Option Loc) → UnexpectedSlotError → Type 0
RefusesSlotAt ss OutOfMemory = Unit {0}
RefusesSlotAt ss (FoundSlot s) = first_of ss ≡ Some (slot_placed s)
