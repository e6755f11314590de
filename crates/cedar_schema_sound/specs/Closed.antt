-- Whether what descends from an entity type or an action is declared and has its own among the same.
-- Rule: descent (docs/RULES.md).
use Rattle.std.specs.Prelude.{◌≡◌, ◌<◌, Bool, true, is_none, length, Contains, Some}
use Rattle.cedar_expr_model.specs.Name.{Name}
use Rattle.cedar_expr_model.specs.Uid.{Uid}
use Rattle.cedar_expr_model.specs.Lists.{first_found}
use Rattle.cedar_schema_model.specs.Kept.{KeptType, KeptAction, Kept, kept_type, kept_action}
use Rattle.cedar_schema_model.specs.Unsound.{type_below_fault, action_below_fault}

-- Of an entity type: nothing is wrong with any that descends from it.
abbrev pub is_type_closed : Kept → KeptType → Bool
is_type_closed k t = is_none (first_found (type_below_fault k t) t.descendants)

-- one that descends from the entity type, and from which fewer do
pub record IsTypeBelow (k : Kept) (t u : KeptType) : Type 0 where
  pub name : Name
  pub among : Contains t.descendants name
  pub kept : kept_type k name ≡ Some u
  pub fewer : length u.descendants < length t.descendants

-- It is so, if it is so of each from which fewer descend.
abbrev pub IsTypeClosedAfter : Kept → KeptType → Type 0
IsTypeClosedAfter k t = ((u : KeptType) → Contains k.types u → length u.descendants < length t.descendants → is_type_closed k u ≡ true) → is_type_closed k t ≡ true

-- Of an action: nothing is wrong with any that descends from it.
abbrev pub is_action_closed : Kept → KeptAction → Bool
is_action_closed k a = is_none (first_found (action_below_fault k a) a.descendants)

pub record IsActionBelow (k : Kept) (a b : KeptAction) : Type 0 where
  pub uid : Uid
  pub among : Contains a.descendants uid
  pub kept : kept_action k uid ≡ Some b
  pub fewer : length b.descendants < length a.descendants

abbrev pub IsActionClosedAfter : Kept → KeptAction → Type 0
IsActionClosedAfter k a = ((b : KeptAction) → Contains k.actions b → length b.descendants < length a.descendants → is_action_closed k b ≡ true) → is_action_closed k a ≡ true
