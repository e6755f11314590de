-- What a built schema has to be, read aloud.
-- Rule: schemas; descent; well-formed declarations (docs/RULES.md).
use Rattle.std.specs.Prelude.{◌≡◌, List, map, false, Option, Some, None, Contains}
use Rattle.cedar_expr_model.specs.Name.{Name, is_reserved}
use Rattle.cedar_expr_model.specs.Uid.{Uid}
use Rattle.cedar_schema_model.specs.Types.{Ty, entity_types, set_type, record_type, extension_type, is_closed, Attributes, no_attributes, attribute}
use Rattle.cedar_schema_model.specs.Schema.{EntityKind, standard, enumerated, external}
use Rattle.cedar_schema_model.specs.Reference.{action_word}
use Rattle.cedar_schema_model.specs.Kept.{KeptType, KeptAction, Kept, kept_type, kept_action}

-- the names of the entity types, and the uids of the actions
abbrev pub names_kept : Kept → List Name
names_kept k = map (λ t. t.name) k.types

abbrev pub uids_kept : Kept → List Uid
uids_kept k = map (λ a. a.uid) k.actions

-- A type is known if each entity type in it is declared, and each extension type is one of these.
abbrev mutual
  pub IsKnownType : List Name → Kept → Ty → Type 0
  IsKnownType x k (entity_types ns) = (n : Name) → Contains ns n → Contains (names_kept k) n
  IsKnownType x k (set_type t) = IsKnownType x k t
  IsKnownType x k (record_type as_ o) = AreKnownAttributes x k as_
  IsKnownType x k (extension_type n) = Contains x n
  IsKnownType x k t = Unit {0}

  pub AreKnownAttributes : List Name → Kept → Attributes → Type 0
  AreKnownAttributes x k no_attributes = Unit {0}
  AreKnownAttributes x k (attribute a t r as_) = IsKnownType x k t × AreKnownAttributes x k as_

-- the type of the tags, where there are tags
abbrev pub IsKnownTag : List Name → Kept → Option Ty → Type 0
IsKnownTag x k None = Unit {0}
IsKnownTag x k (Some t) = IsKnownType x k t

-- the types of the attributes and the tags of an entity type
abbrev pub IsKnownKind : List Name → Kept → EntityKind → Type 0
IsKnownKind x k (standard as_ t) = AreKnownAttributes x k as_ × IsKnownTag x k t
IsKnownKind x k (enumerated ids) = Unit {0}
IsKnownKind x k external = Unit {0}

-- An entity type: its name is free and isn't that of a type of actions, its types are known, and its descendants are declared and have
-- their own among them.
pub record IsSoundType (x : List Name) (k : Kept) (t : KeptType) : Type 0 where
  pub free : is_reserved t.name ≡ false
  pub apart : t.name.base ≡ action_word → ⊥
  pub kind : IsKnownKind x k t.kind
  pub below : (n : Name) → Contains t.descendants n → Contains (names_kept k) n
  pub closed : (n : Name) → Contains t.descendants n → (u : KeptType) → kept_type k n ≡ Some u → (m : Name) → Contains u.descendants m → Contains t.descendants m

-- a closed record type
abbrev pub IsClosedRecord : Ty → Type 0
IsClosedRecord t = (as_ : Attributes) × (t ≡ record_type as_ is_closed)

-- An action: its type is one of actions, and free; what it applies to is declared; its context is a closed record of known types; its
-- descendants are declared, have their own among them, and it isn't one of them.
pub record IsSoundAction (x : List Name) (k : Kept) (a : KeptAction) : Type 0 where
  pub free : is_reserved a.uid.kind ≡ false
  pub kind : a.uid.kind.base ≡ action_word
  pub principals : (n : Name) → Contains a.applied.principals n → Contains (names_kept k) n
  pub resources : (n : Name) → Contains a.applied.resources n → Contains (names_kept k) n
  pub record_context : IsClosedRecord a.context
  pub context : IsKnownType x k a.context
  pub below : (u : Uid) → Contains a.descendants u → Contains (uids_kept k) u
  pub not_itself : Contains a.descendants a.uid → ⊥
  pub closed : (u : Uid) → Contains a.descendants u → (b : KeptAction) → kept_action k u ≡ Some b → (v : Uid) → Contains b.descendants v → Contains a.descendants v

-- What a built schema has to be: each of its entity types and each of its actions is as it has to be. The names are those of the
-- extension types that are known.
pub record IsSound (x : List Name) (k : Kept) : Type 0 where
  pub types : (t : KeptType) → Contains k.types t → IsSoundType x k t
  pub actions : (a : KeptAction) → Contains k.actions a → IsSoundAction x k a
