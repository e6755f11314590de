-- What a built schema keeps, and what is read from it: entity types and actions with what descends from each, in place of its
-- parents.
-- Rule: schemas; descent; environments; action entities; external declarations (docs/RULES.md).
use Rattle.std.specs.Prelude.{◌≡◌, ◌++◌, ◌&&◌, List, [], ◌∷◌, map, Bool, true, false, not, Option, find}
use Rattle.std.specs.List.{list_any, filter, flat_map}
use Rattle.cedar_expr_model.specs.Name.{Name, name_eq}
use Rattle.cedar_expr_model.specs.Uid.{Uid, uid_eq}
use Rattle.cedar_expr_model.specs.Lists.{is_nil}
use Rattle.cedar_expr_model.specs.Value.{V}
use Rattle.cedar_store_model.specs.World.{Entity}
use Rattle.cedar_schema_model.specs.Types.{Ty}
use Rattle.cedar_schema_model.specs.Schema.{EntityKind, standard, enumerated, external}

-- An entity type: its kind, and the entity types that descend from it.
pub record KeptType : Type 0 where
  pub name : Name
  pub kind : EntityKind
  pub descendants : List Name

-- What an action applies to: the types of its principals, and of its resources.
pub record Applied : Type 0 where
  pub principals : List Name
  pub resources : List Name

-- An action: what it applies to, the type of its context, whether it is declared elsewhere, and the actions that descend from it.
pub record KeptAction : Type 0 where
  pub uid : Uid
  pub applied : Applied
  pub context : Ty
  pub is_external : Bool
  pub descendants : List Uid

-- a kind of entity types that are declared elsewhere
abbrev pub is_elsewhere : EntityKind → Bool
is_elsewhere (standard as_ t) = false
is_elsewhere (enumerated ids) = false
is_elsewhere external = true

-- the entity types and the actions, each of one name or uid
pub record Kept : Type 0 where
  pub types : List KeptType
  pub actions : List KeptAction

abbrev pub kept_type : Kept → Name → Option KeptType
kept_type k n = find (λ t. name_eq n t.name) k.types

abbrev pub kept_action : Kept → Uid → Option KeptAction
kept_action k u = find (λ a. uid_eq u a.uid) k.actions

-- the entity types that this one descends from
abbrev pub kept_ancestors : Kept → Name → List Name
kept_ancestors k n = map (λ t. t.name) (filter (λ t. list_any (name_eq n) t.descendants) k.types)

-- the actions that some action descends from
abbrev pub kept_groups : Kept → List Uid
kept_groups k = map (λ a. a.uid) (filter (λ a. not (is_nil a.descendants)) k.actions)

-- the actions that apply to principals and resources of these types
abbrev pub applies_to : Name → Name → KeptAction → Bool
applies_to p r a = list_any (name_eq p) a.applied.principals && list_any (name_eq r) a.applied.resources

abbrev pub kept_actions_for : Kept → Name → Name → List Uid
kept_actions_for k p r = map (λ a. a.uid) (filter (applies_to p r) k.actions)

-- the types of principals, and of resources, of each action
abbrev pub kept_principals : Kept → List Name
kept_principals k = flat_map (λ a. a.applied.principals) k.actions

abbrev pub kept_resources : Kept → List Name
kept_resources k = flat_map (λ a. a.applied.resources) k.actions

-- the actions that this one descends from, and each action as an entity: all of these, neither attributes nor tags
abbrev pub kept_action_ancestors : Kept → Uid → List Uid
kept_action_ancestors k u = map (λ a. a.uid) (filter (λ a. list_any (uid_eq u) a.descendants) k.actions)

abbrev pub kept_as_entity : Kept → Uid → Entity V
kept_as_entity k u = record { attributes = []; tags = []; ancestors = kept_action_ancestors k u }

abbrev pub kept_action_entities : Kept → List (Uid × Entity V)
kept_action_entities k = map (λ a. (a.uid, kept_as_entity k a.uid)) k.actions

-- the types of the parts of a request
pub record RequestKind : Type 0 where
  pub principal : Name
  pub action : Uid
  pub resource : Name

-- the environments: each action with each of its principal and resource types
abbrev pub kinds_with : Uid → List Name → Name → List RequestKind
kinds_with u rs p = map (λ r. record { principal = p; action = u; resource = r }) rs

abbrev pub kinds_of : KeptAction → List RequestKind
kinds_of a = flat_map (kinds_with a.uid a.applied.resources) a.applied.principals

abbrev pub kept_environments : Kept → List RequestKind
kept_environments k = flat_map kinds_of k.actions

-- a type or an action that is declared elsewhere
pub data Elsewhere : Type 0 where
  type_elsewhere : Name → Elsewhere
  action_elsewhere : Uid → Elsewhere

abbrev pub types_elsewhere : List KeptType → List Elsewhere
types_elsewhere ts = map (λ t. type_elsewhere t.name) (filter (λ t. is_elsewhere t.kind) ts)

abbrev pub actions_elsewhere : List KeptAction → List Elsewhere
actions_elsewhere as_ = map (λ a. action_elsewhere a.uid) (filter (λ a. a.is_external) as_)

abbrev pub elsewhere : Kept → List Elsewhere
elsewhere k = types_elsewhere k.types ++ actions_elsewhere k.actions

-- it is the first of these
abbrev pub IsFirst : List Elsewhere → Elsewhere → Type 0
IsFirst xs x = (ys : List Elsewhere) × (xs ≡ x ∷ ys)
