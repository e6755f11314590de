-- What the laws of kept schemas say: what is read from what is kept is what the schema says.
-- Rule: schemas; descent; environments; action entities; external declarations (docs/RULES.md).
use Rattle.std.specs.Prelude.{◌≡◌, ◌↔◌, List, Some, Contains, is_some, true}
use Rattle.cedar_expr_model.specs.Name.{Name}
use Rattle.cedar_expr_model.specs.Uid.{Uid}
use Rattle.cedar_expr_model.specs.Value.{V}
use Rattle.cedar_store_model.specs.World.{Entity}
use Rattle.cedar_schema_model.specs.BagLaws.{HasSchemaFault}
use Rattle.cedar_schema_model.specs.Declarations.{Declarations}
use Rattle.cedar_schema_model.specs.Resolved.{schema_of}
use Rattle.cedar_schema_model.specs.WellFormed.{unresolved_external}
use Rattle.cedar_schema_model.specs.Schema.{external, EntityType, Action, Schema, type_named, action_with, declares_type, declares_action}
use Rattle.cedar_schema_model.specs.Descent.{type_names, action_uids, Descends, ActionDescends}
use Rattle.cedar_schema_model.specs.Environment.{Environment, environments}
use Rattle.cedar_schema_model.specs.ActionEntities.{action_entities}
use Rattle.cedar_schema_model.specs.Kept.{KeptType, KeptAction, Kept, kept_type, kept_action, kept_ancestors, kept_groups, kept_actions_for, kept_principals, kept_resources, RequestKind, kept_environments, kept_action_entities, Elsewhere, type_elsewhere, action_elsewhere, elsewhere}
use Rattle.cedar_schema_model.specs.KeptOf.{IsSameType, IsSameAction, IsKeptOf}

-- What is kept declares the types and actions that the schema declares.
abbrev pub TypesAreDeclared : Type 0
TypesAreDeclared = (s : Schema) (k : Kept) → IsKeptOf s k → (n : Name) → is_some (kept_type k n) ≡ declares_type s n

abbrev pub ActionsAreDeclared : Type 0
ActionsAreDeclared = (s : Schema) (k : Kept) → IsKeptOf s k → (u : Uid) → is_some (kept_action k u) ≡ declares_action s u

-- What is found by a name or a uid is what the schema has there.
abbrev pub TypesAreFound : Type 0
TypesAreFound = (s : Schema) (k : Kept) → IsKeptOf s k → (n : Name) (t : KeptType) → kept_type k n ≡ Some t → (e : EntityType) × (type_named s n ≡ Some e) × IsSameType t e

abbrev pub ActionsAreFound : Type 0
ActionsAreFound = (s : Schema) (k : Kept) → IsKeptOf s k → (u : Uid) (a : KeptAction) → kept_action k u ≡ Some a → (b : Action) × (action_with s u ≡ Some b) × IsSameAction a b

-- The ancestors of a declared entity type are those that it descends from.
abbrev pub AncestorsAreAbove : Type 0
AncestorsAreAbove = (s : Schema) (k : Kept) → IsKeptOf s k → (n m : Name) → Contains (type_names s) n → Contains (kept_ancestors k n) m ↔ (Contains (type_names s) m × Descends s n m)

-- The actions that some action descends from are those of the schema.
abbrev pub GroupsAreKept : Type 0
GroupsAreKept = (s : Schema) (k : Kept) → IsKeptOf s k → (u : Uid) → Contains (kept_groups k) u ↔ (Contains (action_uids s) u × ((v : Uid) × Contains (action_uids s) v × ActionDescends s v u))

-- The actions for principals and resources of two types are those of the schema that apply to both.
abbrev pub ActionsForAreKept : Type 0
ActionsForAreKept = (s : Schema) (k : Kept) → IsKeptOf s k → (p r : Name) (u : Uid) → Contains (kept_actions_for k p r) u ↔ ((b : Action) × Contains s.actions b × (b.uid ≡ u) × Contains b.principals p × Contains b.resources r)

-- The types of principals, and of resources, are those of the schema's actions.
abbrev pub PrincipalsAreKept : Type 0
PrincipalsAreKept = (s : Schema) (k : Kept) → IsKeptOf s k → (n : Name) → Contains (kept_principals k) n ↔ ((b : Action) × Contains s.actions b × Contains b.principals n)

abbrev pub ResourcesAreKept : Type 0
ResourcesAreKept = (s : Schema) (k : Kept) → IsKeptOf s k → (n : Name) → Contains (kept_resources k) n ↔ ((b : Action) × Contains s.actions b × Contains b.resources n)

-- what kind an environment is of
abbrev pub kind_of : Environment → RequestKind
kind_of e = record { principal = e.principal; action = e.action; resource = e.resource }

-- The environments are those of the schema.
abbrev pub EnvironmentsAreKept : Type 0
EnvironmentsAreKept = (s : Schema) (k : Kept) → IsKeptOf s k → (r : RequestKind) → Contains (kept_environments k) r ↔ ((e : Environment) × Contains (environments s) e × (kind_of e ≡ r))

-- Two entities have the same uid, attributes and tags, and the same ancestors in any order.
pub record IsSameEntity (d e : Uid × Entity V) : Type 0 where
  pub uid : d.0 ≡ e.0
  pub attributes : d.1.attributes ≡ e.1.attributes
  pub tags : d.1.tags ≡ e.1.tags
  pub ancestors : (u : Uid) → Contains d.1.ancestors u ↔ Contains e.1.ancestors u

-- The actions as entities are those of the schema, with all their ancestors.
abbrev pub ActionEntitiesAreKept : Type 0
ActionEntitiesAreKept = (s : Schema) (k : Kept) → IsKeptOf s k → (d : Uid × Entity V) → Contains (kept_action_entities k) d → (e : Uid × Entity V) × Contains (action_entities s) e × IsSameEntity d e

abbrev pub AllActionEntitiesAreKept : Type 0
AllActionEntitiesAreKept = (s : Schema) (k : Kept) → IsKeptOf s k → (e : Uid × Entity V) → Contains (action_entities s) e → (d : Uid × Entity V) × Contains (kept_action_entities k) d × IsSameEntity d e

-- the schema has an external declaration: an entity type, or an action
abbrev pub HasElsewhere : Schema → Elsewhere → Type 0
HasElsewhere s (type_elsewhere n) = (e : EntityType) × Contains s.types e × (n ≡ e.name) × (e.kind ≡ external)
HasElsewhere s (action_elsewhere u) = (b : Action) × Contains s.actions b × (u ≡ b.uid) × (b.is_external ≡ true)

-- What is declared elsewhere is that of the schema.
abbrev pub ElsewhereIsKept : Type 0
ElsewhereIsKept = (s : Schema) (k : Kept) → IsKeptOf s k → (x : Elsewhere) → Contains (elsewhere k) x ↔ HasElsewhere s x

-- Declarations have the fault of an external one exactly where something of their schema is declared elsewhere, whatever the
-- extension types.
abbrev pub ExternalIsFault : Type 0
ExternalIsFault = (x : List Name) (d : Declarations) → HasSchemaFault x d unresolved_external ↔ ((e : Elsewhere) × HasElsewhere (schema_of d) e)
