-- The types by which values can be read, and what a type is as one of them.
-- Rule: types (docs/RULES.md).
use Rattle.std.specs.Prelude.{List, [], ◌∷◌, Bool, not}
use Rattle.std.specs.declared.result.Result.{Result}
use Rattle.std.specs.declared.result.Result.TheVariants.{Ok, Err}
use Rattle.cedar_expr_model.specs.Name.{Text, Name}
use Rattle.cedar_schema_model.specs.Subtype.{is_closed_record}
use Rattle.cedar_schema_model.specs.Types.{Ty, never, bool_type, long_type, string_type, any_entity, entity_types, any_set, set_type, record_type, extension_type, Attributes, no_attributes, attribute, Declared}

-- A type by which values can be read. A record is open if it may have fields that its type doesn't list.
mutual
  pub data CoreType : Type 0 where
    core_bool core_long core_string core_empty_set : CoreType
    core_set : CoreType → CoreType
    core_record : CoreAttributes → Bool → CoreType
    core_entity core_extension : Name → CoreType

  -- attributes by rising name, each with its type and whether it is required
  pub data CoreAttributes : Type 0 where
    no_core_attributes : CoreAttributes
    core_attribute : Text → CoreType → Bool → CoreAttributes → CoreAttributes

-- what is declared of an attribute
pub record CoreDeclared : Type 0 where
  pub type : CoreType
  pub required : Bool

-- these attributes, in this order
abbrev pub core_attributes_from : List (Text × CoreDeclared) → CoreAttributes
core_attributes_from [] = no_core_attributes
core_attributes_from (p ∷ ps) = core_attribute p.0 p.1.type p.1.required (core_attributes_from ps)

-- Why no value can be read by a type: the type of no value stands in it, that of any entity, or a union that isn't of one entity type.
pub data Unreadable : Type 0 where
  of_no_value of_any_entity of_several_entity_types : Unreadable

-- what comes after, where the first was read
abbrev pub read_then : {A B : Type 0} → (A → Result B Unreadable) → Result A Unreadable → Result B Unreadable
read_then f (Ok x) = f x
read_then f (Err u) = Err u

-- the type of the entities of a union
abbrev pub core_union_read : List Name → Result CoreType Unreadable
core_union_read [] = Err of_several_entity_types
core_union_read (n ∷ []) = Ok (core_entity n)
core_union_read (n ∷ m ∷ ns) = Err of_several_entity_types

-- What a type is as one by which values can be read, or the first that stands in its way: outside in, attributes in their order.
abbrev mutual
  pub core_read : Ty → Result CoreType Unreadable
  core_read never = Err of_no_value
  core_read (bool_type b) = Ok core_bool
  core_read long_type = Ok core_long
  core_read string_type = Ok core_string
  core_read any_entity = Err of_any_entity
  core_read (entity_types ns) = core_union_read ns
  core_read any_set = Ok core_empty_set
  core_read (set_type t) = read_then (λ c. Ok (core_set c)) (core_read t)
  core_read (record_type as_ o) = read_then (λ cs. Ok (core_record cs (not (is_closed_record o)))) (core_attributes_read as_)
  core_read (extension_type n) = Ok (core_extension n)

  pub core_attributes_read : Attributes → Result CoreAttributes Unreadable
  core_attributes_read no_attributes = Ok no_core_attributes
  core_attributes_read (attribute a t r as_) = read_then (λ c. read_then (λ cs. Ok (core_attribute a c r cs)) (core_attributes_read as_)) (core_read t)

-- what is declared of an attribute, with its type read as a core type, or why that can't be read
abbrev pub core_declared_read : Declared → Result CoreDeclared Unreadable
core_declared_read d = read_then (λ c. Ok (record { type = c; required = d.is_required })) (core_read d.type)
