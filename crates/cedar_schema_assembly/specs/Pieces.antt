-- The entity types and the actions that a built schema keeps of a schema of the model, each apart.
-- Rule: schemas; descent (docs/RULES.md).
use Rattle.std.specs.Prelude.{◌↔◌, List, Contains}
use Rattle.cedar_expr_model.specs.Name.{Name}
use Rattle.cedar_expr_model.specs.Uid.{Uid}
use Rattle.cedar_schema_model.specs.BagLaws.{HasTwice}
use Rattle.cedar_schema_model.specs.Schema.{EntityType, Action, Schema}
use Rattle.cedar_schema_model.specs.Descent.{type_names, action_uids, Descends, ActionDescends}
use Rattle.cedar_schema_model.specs.Kept.{KeptType, KeptAction, Kept}
use Rattle.cedar_schema_model.specs.KeptOf.{IsSameType, IsSameAction, IsKeptOf}

-- These are the entity types of the schema, none of them twice, each with exactly those that descend from it.
pub record AreTypesOf (s : Schema) (ts : List KeptType) : Type 0 where
  pub each : (t : KeptType) → Contains ts t → (e : EntityType) × Contains s.types e × IsSameType t e
  pub all : (e : EntityType) → Contains s.types e → (t : KeptType) × Contains ts t × IsSameType t e
  pub once : HasTwice (type_names s) → ⊥
  pub below : (t : KeptType) → Contains ts t → (m : Name) → Contains t.descendants m ↔ (Contains (type_names s) m × Descends s m t.name)

-- These are the actions of the schema, none of them twice, each with exactly those that descend from it.
pub record AreActionsOf (s : Schema) (as_ : List KeptAction) : Type 0 where
  pub each : (a : KeptAction) → Contains as_ a → (b : Action) × Contains s.actions b × IsSameAction a b
  pub all : (b : Action) → Contains s.actions b → (a : KeptAction) × Contains as_ a × IsSameAction a b
  pub once : HasTwice (action_uids s) → ⊥
  pub below : (a : KeptAction) → Contains as_ a → (u : Uid) → Contains a.descendants u ↔ (Contains (action_uids s) u × ActionDescends s u a.uid)

-- Both together are what a built schema keeps.
abbrev pub PiecesAreKept : Type 0
PiecesAreKept = (s : Schema) (k : Kept) → AreTypesOf s k.types → AreActionsOf s k.actions → IsKeptOf s k
