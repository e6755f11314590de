-- How many steps lead from the request to what an expression is, where each is within a level.
-- Rule: levels (docs/RULES.md).
use Rattle.std.specs.Prelude.{◌+◌, ℕ, max, nat_lt, Bool, true, false, Option, Some, None, option_map, if◌then◌else◌}
use Rattle.cedar_expr_model.specs.Tree.{BinaryOp}
use Rattle.cedar_expr_model.specs.Value.{Literal, entity}
use Rattle.cedar_store_model.specs.Looks.{looks_up}
use Rattle.cedar_typechecker_model.specs.Reported.{is_get_tag}

-- one step more, where that is within the level
abbrev pub one_more : ℕ → Option ℕ → Option ℕ
one_more n None = None
one_more n (Some k) = if nat_lt k n then Some (k + 1) else None

-- to a literal: no step is allowed from a uid that is written down
abbrev pub literal_steps : Literal → Option ℕ
literal_steps (entity u) = None
literal_steps p = Some 0

-- to a tag one step more than to what has it; to a truth value or a number none
abbrev pub looked_up : BinaryOp → ℕ → ℕ
looked_up o k = if is_get_tag o then k else 0

abbrev pub operator_steps : ℕ → BinaryOp → Option ℕ → Option ℕ
operator_steps n o first = if looks_up o then option_map (looked_up o) (one_more n first) else Some 0

-- to an attribute one step more than to the entity that has it, and as many as to the record that has it
abbrev pub attribute_steps : ℕ → Bool → Option ℕ → Option (Option ℕ)
attribute_steps n true k = option_map Some (one_more n k)
attribute_steps n false k = Some k

-- the greater of both, if both are there
abbrev pub greater : Option ℕ → Option ℕ → Option ℕ
greater (Some i) (Some k) = Some (max i k)
greater i k = None
