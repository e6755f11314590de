-- Descent: of entity types by their declared parents, and of actions by theirs.
-- Rule: descent (docs/RULES.md).
use Rattle.std.specs.Prelude.{◌≡◌, ◌&&◌, ◌||◌, List, [], ◌∷◌, map, Bool, Contains}
use Rattle.std.specs.List.{list_any}
use Rattle.cedar_expr_model.specs.Name.{Name, name_eq}
use Rattle.cedar_expr_model.specs.Uid.{Uid, uid_eq}
use Rattle.cedar_schema_model.specs.Schema.{EntityType, Action, Schema}

-- A chain: a step leads from the first to each of those in between in turn, and then to the last.
abbrev pub Chain : {X : Type 0} → (X → X → Type 0) → X → List X → X → Type 0
Chain step x [] y = step x y
Chain step x (z ∷ zs) y = step x z × Chain step z zs y

-- a chain of one or more steps leads from one to the other
abbrev pub Reaches : {X : Type 0} → (X → X → Type 0) → X → X → Type 0
Reaches {X} step x y = (zs : List X) × Chain step x zs y

-- Whether a chain leads from one to the other by way of these alone: straight, or, for each of them, to it and on from it.
abbrev pub reaches : {X : Type 0} → (X → X → Bool) → List X → X → X → Bool
reaches step [] x y = step x y
reaches step (z ∷ zs) x y = reaches step zs x y || (reaches step zs x z && reaches step zs z y)

-- the declared entity types, and the declared actions
abbrev pub type_names : Schema → List Name
type_names s = map (λ t. t.name) s.types

abbrev pub action_uids : Schema → List Uid
action_uids s = map (λ a. a.uid) s.actions

-- the entity type is declared with this parent
abbrev pub HasParent : Schema → Name → Name → Type 0
HasParent s m n = (t : EntityType) × Contains s.types t × (m ≡ t.name) × Contains t.parents n

abbrev pub has_parent : Schema → Name → Name → Bool
has_parent s m n = list_any (λ t. name_eq m t.name && list_any (name_eq n) t.parents) s.types

-- An entity type descends from another by a chain of one or more declared parents.
abbrev pub Descends : Schema → Name → Name → Type 0
Descends s m n = Reaches (HasParent s) m n

abbrev pub descends : Schema → Name → Name → Bool
descends s m n = reaches (has_parent s) (type_names s) m n

-- the action is declared with this parent
abbrev pub HasActionParent : Schema → Uid → Uid → Type 0
HasActionParent s u v = (a : Action) × Contains s.actions a × (u ≡ a.uid) × Contains a.parents v

abbrev pub has_action_parent : Schema → Uid → Uid → Bool
has_action_parent s u v = list_any (λ a. uid_eq u a.uid && list_any (uid_eq v) a.parents) s.actions

-- An action descends from another by a chain of one or more declared parents.
abbrev pub ActionDescends : Schema → Uid → Uid → Type 0
ActionDescends s u v = Reaches (HasActionParent s) u v

abbrev pub action_descends : Schema → Uid → Uid → Bool
action_descends s u v = reaches (has_action_parent s) (action_uids s) u v

-- a declared action that the action descends from
abbrev pub IsActionAncestor : Schema → Uid → Uid → Type 0
IsActionAncestor s u v = Contains (action_uids s) v × ActionDescends s u v

abbrev pub is_action_ancestor : Schema → Uid → Uid → Bool
is_action_ancestor s u v = list_any (uid_eq v) (action_uids s) && action_descends s u v

-- The type of an action descends from another if some declared action of the first has a declared ancestor of the second.
abbrev pub action_type_descends : Schema → Name → Name → Bool
action_type_descends s m n = list_any (λ u. name_eq m u.kind && list_any (λ v. action_descends s u v && name_eq n v.kind) (action_uids s)) (action_uids s)

-- one type, of entities or of actions, descends from another
abbrev pub type_descends : Schema → Name → Name → Bool
type_descends s m n = descends s m n || action_type_descends s m n
