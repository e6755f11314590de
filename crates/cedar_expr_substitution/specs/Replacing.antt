-- The builder of trees that puts trees in the place of unknowns and of slots.
-- Rule: substitution (docs/RULES.md).
use Rattle.std.specs.Prelude.{Option}
use Rattle.cedar_expr_model.specs.Name.{Text}
use Rattle.cedar_expr_model.specs.Tree.{CoreType, SlotId, Tree}
use Rattle.cedar_expr_model.specs.Builder.{Builder, tree_builder}

-- what it makes of an unknown and of a slot is this
abbrev pub replacing : (Text → Option CoreType → Tree) → (SlotId → Tree) → Builder Tree
replacing placed slotted = record tree_builder { of_unknown = placed; of_slot = slotted }
