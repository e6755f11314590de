-- What the laws of what is asked say.
-- Rule: descent; environments; the scope rules (docs/RULES.md).
use Rattle.std.specs.Prelude.{◌≡◌, ◌||◌}
use Rattle.std.specs.List.{flat_map}
use Rattle.cedar_expr_model.specs.Name.{Name}
use Rattle.cedar_expr_model.specs.Uid.{Uid}
use Rattle.cedar_schema_model.specs.Descent.{type_descends, action_descends}
use Rattle.cedar_schema_model.specs.Environment.{environments, types_above}
use Rattle.cedar_schema_model.specs.Kept.{Kept}
use Rattle.cedar_typechecker_model.specs.ScopeRules.{is_action_type}
use Rattle.cedar_typechecker_model.specs.Asked.{type_is_below, action_is_below, kind_is_below, is_kind, others_above, environments_kept}
use Rattle.cedar_typechecker_model.specs.Seen.{schema_seen, IsClosed, IsKeptOnce}

-- One type descends from another where it is below it, or an action of it is below an action of the other,
abbrev pub TypesAreAsked : Type 0
TypesAreAsked = (k : Kept) → IsClosed k → IsKeptOnce k → (m n : Name) → (type_is_below k m n || kind_is_below k.actions m n) ≡ type_descends (schema_seen k) m n

-- and one action from another where it is below it.
abbrev pub ActionsAreAsked : Type 0
ActionsAreAsked = (k : Kept) → IsClosed k → IsKeptOnce k → (u v : Uid) → action_is_below k u v ≡ action_descends (schema_seen k) u v

-- The types of a slot are those that stand above.
abbrev pub OthersAreAsked : Type 0
OthersAreAsked = (k : Kept) → IsClosed k → IsKeptOnce k → (n : Name) → others_above k n ≡ types_above (schema_seen k) n

-- The types of actions are those of the kept actions.
abbrev pub KindsAreAsked : Type 0
KindsAreAsked = (k : Kept) (n : Name) → is_kind k.actions n ≡ is_action_type (schema_seen k) n

-- The environments are those of the kept actions, in their order.
abbrev pub EnvironmentsAreAsked : Type 0
EnvironmentsAreAsked = (k : Kept) → flat_map environments_kept k.actions ≡ environments (schema_seen k)
