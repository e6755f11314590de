-- A built schema as the schema that typing asks: the entity types and actions in the order in which they are kept, each with all that it
-- descends from as its parents.
-- Rule: schemas; descent (docs/RULES.md).
use Rattle.std.specs.Prelude.{◌≡◌, List, map, true, Contains}
use Rattle.std.specs.List.{list_any}
use Rattle.cedar_expr_model.specs.Name.{Name, name_eq}
use Rattle.cedar_expr_model.specs.Uid.{Uid, uid_eq}
use Rattle.cedar_schema_model.specs.BagLaws.{HasTwice}
use Rattle.cedar_schema_model.specs.Types.{Ty, record_type, Attributes, no_attributes}
use Rattle.cedar_schema_model.specs.Schema.{EntityType, Action, Schema}
use Rattle.cedar_schema_model.specs.Kept.{KeptType, KeptAction, Kept, kept_ancestors, kept_action_ancestors}

-- the attributes of a context of this type
abbrev pub context_of : Ty → Attributes
context_of (record_type as_ o) = as_
context_of t = no_attributes

abbrev pub type_seen : Kept → KeptType → EntityType
type_seen k t = record { name = t.name; parents = kept_ancestors k t.name; kind = t.kind }

abbrev pub action_seen : Kept → KeptAction → Action
action_seen k a = record {
  uid = a.uid;
  parents = kept_action_ancestors k a.uid;
  principals = a.applied.principals;
  resources = a.applied.resources;
  context = context_of a.context;
  is_external = a.is_external;
}

abbrev pub schema_seen : Kept → Schema
schema_seen k = record { types = map (type_seen k) k.types; actions = map (action_seen k) k.actions }

-- the names of the entity types, and the uids of the actions
abbrev pub names_kept : Kept → List Name
names_kept k = map (λ t. t.name) k.types

abbrev pub uids_kept : Kept → List Uid
uids_kept k = map (λ a. a.uid) k.actions

-- What descends from something is kept, and descends from all that this descends from.
pub record IsClosed (k : Kept) : Type 0 where
  pub types_there : (m n : Name) → Contains (kept_ancestors k m) n → Contains (names_kept k) m
  pub types_on : (l m n : Name) → Contains (kept_ancestors k l) m → Contains (kept_ancestors k m) n → Contains (kept_ancestors k l) n
  pub actions_there : (u v : Uid) → Contains (kept_action_ancestors k u) v → Contains (uids_kept k) u
  pub actions_on : (t u v : Uid) → Contains (kept_action_ancestors k t) u → Contains (kept_action_ancestors k u) v → Contains (kept_action_ancestors k t) v

-- no entity type is kept twice, and no action
pub record IsKeptOnce (k : Kept) : Type 0 where
  pub types : HasTwice (names_kept k) → ⊥
  pub actions : HasTwice (uids_kept k) → ⊥

-- What is kept is closed under descent, by equations of tests, of which there is one proof at most.
pub record ClosedByTests (k : Kept) : Type 0 where
  pub types_there : (m n : Name) → list_any (name_eq n) (kept_ancestors k m) ≡ true → list_any (name_eq m) (names_kept k) ≡ true
  pub types_on : (l m n : Name) → list_any (name_eq m) (kept_ancestors k l) ≡ true → list_any (name_eq n) (kept_ancestors k m) ≡ true → list_any (name_eq n) (kept_ancestors k l) ≡ true
  pub actions_there : (u v : Uid) → list_any (uid_eq v) (kept_action_ancestors k u) ≡ true → list_any (uid_eq u) (uids_kept k) ≡ true
  pub actions_on : (t u v : Uid) → list_any (uid_eq u) (kept_action_ancestors k t) ≡ true → list_any (uid_eq v) (kept_action_ancestors k u) ≡ true → list_any (uid_eq v) (kept_action_ancestors k t) ≡ true
