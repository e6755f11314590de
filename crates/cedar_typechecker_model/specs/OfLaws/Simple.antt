-- Simple types, in which each entity type stands alone and no attribute is repeated, and what typing takes from a schema.
-- Rule: typing; schemas (docs/RULES.md).
use Rattle.std.specs.Prelude.{◌≡◌, ◌&&◌, List, [], ◌∷◌, Bool, true, false, Option, Some, None, is_none, Contains}
use Rattle.std.proofs.Common.{◌⊎◌}
use Rattle.cedar_expr_model.specs.Name.{Name}
use Rattle.cedar_expr_model.specs.Uid.{Uid}
use Rattle.cedar_schema_model.specs.Types.{Ty, entity_types, set_type, record_type, Attributes, no_attributes, attribute, attribute_named}
use Rattle.cedar_schema_model.specs.Schema.{EntityKind, standard, EntityType, Action, Schema, type_named, declares_type, declares_action}
use Rattle.cedar_schema_model.specs.Descent.{type_names, Descends}
use Rattle.cedar_schema_model.specs.Declarations.{Declarations}
use Rattle.cedar_schema_model.specs.WellFormed.{IsWellFormed}
use Rattle.cedar_schema_model.specs.Resolved.{schema_of}

-- one name
abbrev pub is_alone : List Name → Bool
is_alone (n ∷ []) = true
is_alone ns = false

-- Each union in the type is of one entity type, and the attributes of each record have different names.
abbrev mutual
  pub is_simple : Ty → Bool
  is_simple (entity_types ns) = is_alone ns
  is_simple (set_type t) = is_simple t
  is_simple (record_type as_ o) = are_simple as_
  is_simple t = true

  pub are_simple : Attributes → Bool
  are_simple no_attributes = true
  are_simple (attribute n t r as_) = is_simple t && (is_none (attribute_named n as_) && are_simple as_)

-- the attributes of an entity type, and the type of its tags
abbrev pub is_simple_tag : Option Ty → Bool
is_simple_tag None = true
is_simple_tag (Some t) = is_simple t

abbrev pub is_simple_kind : EntityKind → Bool
is_simple_kind (standard as_ tags) = are_simple as_ && is_simple_tag tags
is_simple_kind k = true

-- What typing takes from a schema: its types are simple, no entity type is the type of an action, and what a type descends from and
-- what an action lists are declared types.
pub record IsOrderly (s : Schema) : Type 0 where
  pub types : (n : Name) (t : EntityType) → type_named s n ≡ Some t → is_simple_kind t.kind ≡ true
  pub contexts : (a : Action) → Contains s.actions a → are_simple a.context ≡ true
  pub apart : (u : Uid) → declares_action s u ≡ true → declares_type s u.kind ≡ false
  pub above : (m n : Name) → Descends s m n → Contains (type_names s) n
  pub listed : (a : Action) → Contains s.actions a → (n : Name) → Contains a.principals n ⊎ Contains a.resources n → Contains (type_names s) n

-- the schema of well-formed declarations is orderly
abbrev pub SchemasAreOrderly : Type 0
SchemasAreOrderly = (x : List Name) (d : Declarations) → IsWellFormed x d → IsOrderly (schema_of d)
