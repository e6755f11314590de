-- Schemas that answer alike whatever typing, the scope rules and the environments ask of them.
-- Rule: schemas; descent; environments; typing; the scope rules (docs/RULES.md).
use Rattle.std.specs.Prelude.{◌≡◌, ◌↔◌, Contains}
use Rattle.cedar_expr_model.specs.Name.{Text, Name}
use Rattle.cedar_expr_model.specs.Uid.{Uid}
use Rattle.cedar_expr_model.specs.Table.{Table}
use Rattle.cedar_schema_model.specs.Schema.{Schema, declares_type, declares_action}
use Rattle.cedar_schema_model.specs.Descent.{type_names, action_uids, Descends, ActionDescends, type_descends, action_descends}
use Rattle.cedar_schema_model.specs.Environment.{Environment, environments, types_above}
use Rattle.cedar_schema_model.specs.Lookup.{declared_of}
use Rattle.cedar_typechecker_model.specs.Rules.{tags_of}
use Rattle.cedar_typechecker_model.specs.ScopeRules.{is_action_type, is_no_unknown_member}

-- They declare the same entity types and actions, with the same descent, attributes, tags and members, and have the same environments
-- and the same types for slots, in any order.
pub record AnswersAlike (s t : Schema) : Type 0 where
  pub types : (n : Name) → declares_type s n ≡ declares_type t n
  pub actions : (u : Uid) → declares_action s u ≡ declares_action t u
  pub type_descent : (m n : Name) → type_descends s m n ≡ type_descends t m n
  pub action_descent : (u v : Uid) → action_descends s u v ≡ action_descends t u v
  pub attributes : (a : Text) (n : Name) → declared_of s a n ≡ declared_of t a n
  pub tags : (n : Name) → tags_of s n ≡ tags_of t n
  pub action_types : (n : Name) → is_action_type s n ≡ is_action_type t n
  pub members : (u : Uid) → is_no_unknown_member s u ≡ is_no_unknown_member t u
  pub environments : (e : Environment) → Contains (environments s) e ↔ Contains (environments t) e
  pub above : (n m : Name) → Contains (types_above s n) m ↔ Contains (types_above t n) m

-- What an entity type descends from is a declared entity type, and what an action descends from a declared action.
pub record DescendsToDeclared (s : Schema) : Type 0 where
  pub types : (m n : Name) → Descends s m n → Contains (type_names s) n
  pub actions : (u v : Uid) → ActionDescends s u v → Contains (action_uids s) v

-- Tables of the same functions and ordered types, whatever the functions answer.
pub record HasSameSignatures (x y : Table) : Type 0 where
  pub functions : x.functions ≡ y.functions
  pub ordered : x.ordered ≡ y.ordered
