-- Types.
-- Rule: types (docs/RULES.md).
use Rattle.std.specs.Prelude.{List, [], ◌∷◌, Bool, Option, Some, None, if◌then◌else◌}
use Rattle.std.specs.Str.{bytes_eq}
use Rattle.cedar_expr_model.specs.Name.{Text, Name}

pub data BoolType : Type 0 where
  any_bool only_true only_false : BoolType

-- whether a record may have fields that its type doesn't list
pub data Openness : Type 0 where
  is_open is_closed : Openness

-- A type. The type of some entities lists their entity types, rising, at least one. `any_set` is the type of all sets.
mutual
  pub data Ty : Type 0 where
    never long_type string_type any_entity any_set : Ty
    bool_type : BoolType → Ty
    entity_types : List Name → Ty
    set_type : Ty → Ty
    record_type : Attributes → Openness → Ty
    extension_type : Name → Ty

  -- attributes by rising name, each with its type and whether it is required
  pub data Attributes : Type 0 where
    no_attributes : Attributes
    attribute : Text → Ty → Bool → Attributes → Attributes

-- the entities of one type
abbrev pub entity_type : Name → Ty
entity_type n = entity_types (n ∷ [])

-- what is declared of an attribute: its type, and whether it is required
pub record Declared : Type 0 where
  pub type : Ty
  pub is_required : Bool

abbrev pub attribute_named : Text → Attributes → Option Declared
attribute_named a no_attributes = None
attribute_named a (attribute b t r as_) = if bytes_eq a b then Some (record { type = t; is_required = r }) else attribute_named a as_

-- the two ways of typing
pub data Mode : Type 0 where
  strict permissive : Mode
