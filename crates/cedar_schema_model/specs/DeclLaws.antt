-- What the laws on declarations, entities and requests say.
-- Rule: descent; action entities; conforming entities; conforming requests; environments (docs/RULES.md).
use Rattle.std.specs.Prelude.{◌≡◌, ◌↔◌, List, [], true, false, Option, Some, None, is_some, Contains, if◌then◌else◌}
use Rattle.std.specs.Map.{lookup}
use Rattle.std.specs.Str.{bytes_eq}
use Rattle.std.specs.Bool.{Decides}
use Rattle.std.proofs.Common.{◌⊎◌}
use Rattle.cedar_expr_model.specs.Name.{Text, Name}
use Rattle.cedar_expr_model.specs.Uid.{Uid}
use Rattle.cedar_expr_model.specs.Value.{V, record_of}
use Rattle.cedar_expr_model.specs.ValueParts.{Part, known}
use Rattle.cedar_store_model.specs.World.{Entity, Found, held, Request}
use Rattle.cedar_store_model.specs.Knowledge.{is_known}
use Rattle.cedar_store_model.specs.Store.{OpenRequest, as_open}
use Rattle.cedar_schema_model.specs.Types.{Ty, record_type, is_closed, Declared, attribute_named}
use Rattle.cedar_schema_model.specs.Schema.{enumerated, Schema, Action, action_with, declares_action}
use Rattle.cedar_schema_model.specs.Descent.{type_names, action_uids, Descends, descends, ActionDescends, action_descends, action_type_descends, type_descends, IsActionAncestor}
use Rattle.cedar_schema_model.specs.ActionEntities.{action_ancestors, as_entity, action_entities}
use Rattle.cedar_schema_model.specs.HasType.{HasType}
use Rattle.cedar_schema_model.specs.Conforming.{ConformFault, undeclared, not_listed, no_member, lacks_attribute, undeclared_attribute, attribute_value, tag, ancestor, context_value, open_part, Place, among_actions, of_kind, nowhere, place_of, attributes_at, tags_at, attribute_list, type_at, has_entity_fault, EntityConforms, entity_conforms, has_request_fault, RequestConforms, request_conforms}
use Rattle.cedar_schema_model.specs.Environment.{Environment, environment_at, environments, SlotUse, no_slot, equal_slot, in_slot, with_slots, environments_for}

-- A chain of declared parents, read directly: the type of an action descends from another if some declared action of the first has
-- a declared ancestor of the second.
abbrev pub ActionTypeDescends : Schema → Name → Name → Type 0
ActionTypeDescends s m n = (u : Uid) × Contains (action_uids s) u × (m ≡ u.kind) × ((v : Uid) × IsActionAncestor s u v × (n ≡ v.kind))

-- one type, of entities or of actions, descends from another
abbrev pub TypeDescends : Schema → Name → Name → Type 0
TypeDescends s m n = Descends s m n ⊎ ActionTypeDescends s m n

-- the tests decide descent
abbrev pub DescentDecides : Type 0
DescentDecides = (s : Schema) (m n : Name) → Decides (descends s m n) (Descends s m n)

abbrev pub ActionDescentDecides : Type 0
ActionDescentDecides = (s : Schema) (u v : Uid) → Decides (action_descends s u v) (ActionDescends s u v)

abbrev pub ActionTypeDescentDecides : Type 0
ActionTypeDescentDecides = (s : Schema) (m n : Name) → Decides (action_type_descends s m n) (ActionTypeDescends s m n)

abbrev pub TypeDescentDecides : Type 0
TypeDescentDecides = (s : Schema) (m n : Name) → Decides (type_descends s m n) (TypeDescends s m n)

-- what descends from what descends does so too
abbrev pub DescentIsTransitive : Type 0
DescentIsTransitive = (s : Schema) (l m n : Name) → Descends s l m → Descends s m n → Descends s l n

-- the ancestors of an action as an entity are its declared ancestors
abbrev pub AncestorsAreDeclared : Type 0
AncestorsAreDeclared = (s : Schema) (u v : Uid) → Contains (action_ancestors s u) v ↔ IsActionAncestor s u v

-- the entity that a declared action is
abbrev pub action_entity : Schema → Uid → Option (Entity V)
action_entity s u = if declares_action s u then Some (as_entity s u) else None

-- the entities are those of the declared actions
abbrev pub EntitiesAreActions : Type 0
EntitiesAreActions = (s : Schema) (u : Uid) (e : Entity V) → Contains (action_entities s) (u, e) ↔ (action_entity s u ≡ Some e)

-- each conforms
abbrev pub ActionsConform : Type 0
ActionsConform = (s : Schema) (u : Uid) (e : Entity V) → action_entity s u ≡ Some e → EntityConforms s u e

-- The faults of entities, read directly. An enumerated type doesn't have this member.
abbrev pub IsNoMember : Place → Text → Type 0
IsNoMember (of_kind (enumerated ids)) id = Contains ids id → ⊥
IsNoMember p id = ⊥

-- a value that isn't of the type
abbrev pub IsRefused : Option Ty → Part V → Type 0
IsRefused (Some t) (known v) = HasType v t → ⊥
IsRefused t x = ⊥

-- what may be an ancestor, and what has to be one
abbrev pub MayDescend : Schema → Uid → Place → Uid → Type 0
MayDescend s u among_actions v = IsActionAncestor s u v
MayDescend s u (of_kind (enumerated ids)) v = ⊥
MayDescend s u p v = Descends s u.kind v.kind

abbrev pub MustDescend : Schema → Uid → Place → Uid → Type 0
MustDescend s u among_actions v = IsActionAncestor s u v
MustDescend s u p v = ⊥

abbrev pub HasLeft : List (Text × Part V) → Type 0
HasLeft ps = (x : Text × Part V) × Contains ps x × (is_known x.1 ≡ false)

abbrev pub EntityFaultAt : Schema → Uid → Entity V → Place → ConformFault → Type 0
EntityFaultAt s u e p undeclared = p ≡ nowhere
EntityFaultAt s u e p no_member = IsNoMember p u.id
EntityFaultAt s u e p lacks_attribute = (d : Text × Declared) × Contains (attribute_list (attributes_at p)) d × (d.1.is_required ≡ true) × (lookup (bytes_eq d.0) e.attributes ≡ None)
EntityFaultAt s u e p undeclared_attribute = (x : Text × Part V) × Contains e.attributes x × (attribute_named x.0 (attributes_at p) ≡ None)
EntityFaultAt s u e p attribute_value = (x : Text × Part V) × Contains e.attributes x × IsRefused (type_at (attributes_at p) x.0) x.1
EntityFaultAt s u e p tag = (x : Text × Part V) × Contains e.tags x × ((tags_at p ≡ None) ⊎ IsRefused (tags_at p) x.1)
EntityFaultAt s u e p ancestor = ((v : Uid) × Contains e.ancestors v × (MayDescend s u p v → ⊥)) ⊎ ((v : Uid) × MustDescend s u p v × (Contains e.ancestors v → ⊥))
EntityFaultAt s u e p open_part = HasLeft e.attributes ⊎ HasLeft e.tags
EntityFaultAt s u e p f = ⊥

abbrev pub HasEntityFault : Schema → Uid → Entity V → ConformFault → Type 0
HasEntityFault s u e f = EntityFaultAt s u e (place_of s u) f

-- The faults of requests, read directly. This holds of what is known.
abbrev pub WhereKnown : {A : Type 0} → Option A → (A → Type 0) → Type 0
WhereKnown None holds = ⊥
WhereKnown (Some a) holds = holds a

abbrev pub OfAction : Schema → OpenRequest → (Action → Type 0) → Type 0
OfAction s r holds = WhereKnown r.action (λ u. WhereKnown (action_with s u) holds)

abbrev pub IsNotListed : List Name → Option Uid → Type 0
IsNotListed ns u = WhereKnown u (λ v. Contains ns v.kind → ⊥)

abbrev pub HasRequestFault : Schema → OpenRequest → ConformFault → Type 0
HasRequestFault s r undeclared = WhereKnown r.action (λ u. declares_action s u ≡ false)
HasRequestFault s r not_listed = OfAction s r (λ a. IsNotListed a.principals r.principal ⊎ IsNotListed a.resources r.resource)
HasRequestFault s r no_member = WhereKnown r.principal (λ u. IsNoMember (place_of s u) u.id) ⊎ WhereKnown r.resource (λ u. IsNoMember (place_of s u) u.id)
HasRequestFault s r context_value = OfAction s r (λ a. WhereKnown r.context (λ v. HasType v (record_type a.context is_closed) → ⊥))
HasRequestFault s r open_part = ((r.principal ≡ None) ⊎ (r.action ≡ None)) ⊎ ((r.resource ≡ None) ⊎ (r.context ≡ None))
HasRequestFault s r f = ⊥

-- the tests decide which faults are there
abbrev pub EntityFaultsDecide : Type 0
EntityFaultsDecide = (s : Schema) (u : Uid) (e : Entity V) (f : ConformFault) → Decides (has_entity_fault s u e f) (HasEntityFault s u e f)

abbrev pub EntityConformingDecides : Type 0
EntityConformingDecides = (s : Schema) (u : Uid) (e : Entity V) → Decides (entity_conforms s u e) (EntityConforms s u e)

abbrev pub ConformingIsFaultless : Type 0
ConformingIsFaultless = (s : Schema) (u : Uid) (e : Entity V) → EntityConforms s u e ↔ ((f : ConformFault) → HasEntityFault s u e f → ⊥)

abbrev pub RequestFaultsDecide : Type 0
RequestFaultsDecide = (s : Schema) (r : OpenRequest) (f : ConformFault) → Decides (has_request_fault s r f) (HasRequestFault s r f)

abbrev pub RequestConformingDecides : Type 0
RequestConformingDecides = (s : Schema) (r : OpenRequest) → Decides (request_conforms s r) (RequestConforms s r)

abbrev pub RequestIsFaultless : Type 0
RequestIsFaultless = (s : Schema) (r : OpenRequest) → RequestConforms s r ↔ ((f : ConformFault) → HasRequestFault s r f → ⊥)

-- Conforming, read directly: this is known and of the type.
abbrev pub IsOf : Option Ty → Part V → Type 0
IsOf (Some t) (known v) = HasType v t
IsOf t x = ⊥

-- An entity that conforms: it is declared, and so is its member where it is of an enumerated type; required attributes are
-- there; attributes are declared, and they and the tags are of their types; the ancestors are as they have to be.
pub record IsGoodEntity (s : Schema) (u : Uid) (e : Entity V) : Type 0 where
  pub is_declared : place_of s u ≡ nowhere → ⊥
  pub member : IsNoMember (place_of s u) u.id → ⊥
  pub required : (d : Text × Declared) → Contains (attribute_list (attributes_at (place_of s u))) d → d.1.is_required ≡ true → is_some (lookup (bytes_eq d.0) e.attributes) ≡ true
  pub attributes : (p : Text × Part V) → Contains e.attributes p → IsOf (type_at (attributes_at (place_of s u)) p.0) p.1
  pub tags : (p : Text × Part V) → Contains e.tags p → IsOf (tags_at (place_of s u)) p.1
  pub allowed : (v : Uid) → Contains e.ancestors v → MayDescend s u (place_of s u) v
  pub whole : (v : Uid) → MustDescend s u (place_of s u) v → Contains e.ancestors v

-- A request that conforms: its action is declared, for the types of its principal and resource; these are members where
-- their types are enumerated; and the context is of its type.
pub record IsGoodFor (s : Schema) (r : Request) (a : Action) : Type 0 where
  pub action : action_with s r.action ≡ Some a
  pub principal : Contains a.principals r.principal.kind
  pub resource : Contains a.resources r.resource.kind
  pub principal_member : IsNoMember (place_of s r.principal) r.principal.id → ⊥
  pub resource_member : IsNoMember (place_of s r.resource) r.resource.id → ⊥
  pub context : HasType (record_of r.context) (record_type a.context is_closed)

abbrev pub IsGoodRequest : Schema → Request → Type 0
IsGoodRequest s r = (a : Action) × IsGoodFor s r a

-- an entity conforms exactly where it does by the direct reading
abbrev pub EntitiesReadDirectly : Type 0
EntitiesReadDirectly = (s : Schema) (u : Uid) (e : Entity V) → EntityConforms s u e ↔ IsGoodEntity s u e

-- a request conforms exactly where it is known and does so by the direct reading
abbrev pub IsKnownAndGood : Schema → OpenRequest → Type 0
IsKnownAndGood s r = (q : Request) × (r ≡ as_open q) × IsGoodRequest s q

abbrev pub RequestsReadDirectly : Type 0
RequestsReadDirectly = (s : Schema) (r : OpenRequest) → RequestConforms s r ↔ IsKnownAndGood s r

-- A store conforms: each entity that it holds does, and it holds each declared action.
pub record StoreConforms (s : Schema) (store : Uid → Found V) : Type 0 where
  pub each : (u : Uid) (e : Entity V) → store u ≡ held e → EntityConforms s u e
  pub actions : (u : Uid) → declares_action s u ≡ true → (e : Entity V) × (store u ≡ held e)

-- an environment is that of a declared action with one of its principal and one of its resource types
abbrev pub IsProduct : Schema → Environment → Type 0
IsProduct s x = (a : Action) × Contains s.actions a × ((p : Name) × Contains a.principals p × ((r : Name) × Contains a.resources r × (x ≡ environment_at a p r)))

abbrev pub EnvironmentsAreProducts : Type 0
EnvironmentsAreProducts = (s : Schema) (x : Environment) → Contains (environments s) x ↔ IsProduct s x

-- a conforming request has its environment among them
abbrev pub RequestsHaveEnvironments : Type 0
RequestsHaveEnvironments = (s : Schema) (r : Request) (a : Action) → IsGoodFor s r a → (a.uid ≡ r.action) × Contains (environments s) (environment_at a r.principal.kind r.resource.kind)

-- the types that a slot may have, by its variable's type
abbrev pub IsAtOrAbove : Schema → Name → Name → Type 0
IsAtOrAbove s n m = (m ≡ n) ⊎ (Contains (type_names s) m × Descends s n m)

abbrev pub TakesSlot : Schema → SlotUse → Name → Option Name → Type 0
TakesSlot s no_slot n t = t ≡ None
TakesSlot s equal_slot n t = t ≡ Some n
TakesSlot s in_slot n t = (m : Name) × IsAtOrAbove s n m × (t ≡ Some m)

-- the environments of a policy are those of the schema, with each type that its slots may have
abbrev pub IsLinked : Schema → SlotUse → SlotUse → Environment → Type 0
IsLinked s p r x = (e : Environment) × Contains (environments s) e × ((m : Option Name) × TakesSlot s p e.principal m × ((n : Option Name) × TakesSlot s r e.resource n × (x ≡ with_slots e m n)))

abbrev pub SlotsAreCovered : Type 0
SlotsAreCovered = (s : Schema) (p r : SlotUse) (x : Environment) → Contains (environments_for s p r) x ↔ IsLinked s p r x

-- a conforming store holds each declared action, without attributes and tags, with exactly its declared ancestors
pub record IsActionEntity (s : Schema) (u : Uid) (e : Entity V) : Type 0 where
  pub attributes : e.attributes ≡ []
  pub tags : e.tags ≡ []
  pub ancestors : (v : Uid) → Contains e.ancestors v ↔ IsActionAncestor s u v

abbrev pub StoresHoldActions : Type 0
StoresHoldActions = (s : Schema) (store : Uid → Found V) → StoreConforms s store → (u : Uid) → declares_action s u ≡ true → (e : Entity V) × (store u ≡ held e) × IsActionEntity s u e
