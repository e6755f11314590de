-- A schema: what declarations say once references are resolved and common types replaced.
-- Rule: schemas (docs/RULES.md).
use Rattle.std.specs.Prelude.{List, Bool, Option, is_some, find}
use Rattle.cedar_expr_model.specs.Name.{Text, Name, name_eq}
use Rattle.cedar_expr_model.specs.Uid.{Uid, uid_eq}
use Rattle.cedar_schema_model.specs.Types.{Ty, Attributes}

-- An entity type is standard, with attributes and, if it has tags, their type; or enumerated; or declared elsewhere.
pub data EntityKind : Type 0 where
  standard : Attributes → Option Ty → EntityKind
  enumerated : List Text → EntityKind
  external : EntityKind

pub record EntityType : Type 0 where
  pub name : Name
  pub parents : List Name
  pub kind : EntityKind

-- An action: its parents, the types of its principals and resources, and that of its context. One that is declared elsewhere
-- has parents alone.
pub record Action : Type 0 where
  pub uid : Uid
  pub parents : List Uid
  pub principals : List Name
  pub resources : List Name
  pub context : Attributes
  pub is_external : Bool

pub record Schema : Type 0 where
  pub types : List EntityType
  pub actions : List Action

abbrev pub type_named : Schema → Name → Option EntityType
type_named s n = find (λ t. name_eq n t.name) s.types

abbrev pub action_with : Schema → Uid → Option Action
action_with s u = find (λ a. uid_eq u a.uid) s.actions

abbrev pub declares_type : Schema → Name → Bool
declares_type s n = is_some (type_named s n)

abbrev pub declares_action : Schema → Uid → Bool
declares_action s u = is_some (action_with s u)
