-- What a built schema keeps of a schema of the model.
-- Rule: schemas; descent (docs/RULES.md).
use Rattle.std.specs.Prelude.{◌≡◌, ◌↔◌, List, map, Contains}
use Rattle.cedar_expr_model.specs.Name.{Text, Name}
use Rattle.cedar_expr_model.specs.Uid.{Uid}
use Rattle.cedar_schema_model.specs.BagLaws.{HasTwice}
use Rattle.cedar_schema_model.specs.Types.{record_type, is_closed}
use Rattle.cedar_schema_model.specs.Schema.{EntityKind, standard, enumerated, external, EntityType, Action, Schema}
use Rattle.cedar_schema_model.specs.Descent.{type_names, action_uids, Descends, ActionDescends}
use Rattle.cedar_schema_model.specs.Kept.{KeptType, KeptAction, Kept}

-- Two kinds of entity types are equal; the members of an enumeration may stand in another order, and repeated.
abbrev pub IsSameKind : EntityKind → EntityKind → Type 0
IsSameKind (standard as_ t) k = k ≡ standard as_ t
IsSameKind (enumerated ids) k = (js : List Text) × (k ≡ enumerated js) × ((id : Text) → Contains ids id ↔ Contains js id)
IsSameKind external k = k ≡ external

-- A kept entity type is this one of the schema, whatever either descends from.
pub record IsSameType (t : KeptType) (e : EntityType) : Type 0 where
  pub name : t.name ≡ e.name
  pub kind : IsSameKind t.kind e.kind

-- A kept action is this one of the schema, whatever either descends from.
pub record IsSameAction (a : KeptAction) (b : Action) : Type 0 where
  pub uid : a.uid ≡ b.uid
  pub principals : (n : Name) → Contains a.applied.principals n ↔ Contains b.principals n
  pub resources : (n : Name) → Contains a.applied.resources n ↔ Contains b.resources n
  pub context : a.context ≡ record_type b.context is_closed
  pub is_external : a.is_external ≡ b.is_external

-- What is kept are the entity types and actions of the schema, none of them twice, each with exactly those that descend from it.
pub record IsKeptOf (s : Schema) (k : Kept) : Type 0 where
  pub types : (t : KeptType) → Contains k.types t → (e : EntityType) × Contains s.types e × IsSameType t e
  pub all_types : (e : EntityType) → Contains s.types e → (t : KeptType) × Contains k.types t × IsSameType t e
  pub types_once : HasTwice (type_names s) → ⊥
  pub types_below : (t : KeptType) → Contains k.types t → (m : Name) → Contains t.descendants m ↔ (Contains (type_names s) m × Descends s m t.name)
  pub actions : (a : KeptAction) → Contains k.actions a → (b : Action) × Contains s.actions b × IsSameAction a b
  pub all_actions : (b : Action) → Contains s.actions b → (a : KeptAction) × Contains k.actions a × IsSameAction a b
  pub actions_once : HasTwice (action_uids s) → ⊥
  pub actions_below : (a : KeptAction) → Contains k.actions a → (u : Uid) → Contains a.descendants u ↔ (Contains (action_uids s) u × ActionDescends s u a.uid)
