-- The values of a type.
-- Rule: values of a type (docs/RULES.md).
use Rattle.std.specs.Prelude.{◌≡◌, ◌&&◌, ◌||◌, Bool, true, false, not, Option, Some, None, is_some, Contains}
use Rattle.std.specs.List.{list_any}
use Rattle.cedar_expr_model.specs.Name.{name_eq}
use Rattle.cedar_expr_model.specs.Value.{Literal, truth, long, text, entity, V, prim, set_of, record_of, extension, Vs, no_values, value, Fields, no_fields, field, field_of}
use Rattle.cedar_schema_model.specs.Types.{BoolType, any_bool, only_true, only_false, Openness, is_open, is_closed, Ty, bool_type, long_type, string_type, any_entity, entity_types, any_set, set_type, record_type, extension_type, Attributes, no_attributes, attribute, Declared, attribute_named}

-- the truth values of a Boolean type
abbrev pub is_of_bool : BoolType → Bool → Bool
is_of_bool any_bool b = true
is_of_bool only_true b = b
is_of_bool only_false b = not b

-- An entity is of a union that has its entity type.
abbrev pub LiteralHasType : Literal → Ty → Type 0
LiteralHasType (truth b) (bool_type c) = is_of_bool c b ≡ true
LiteralHasType (long n) long_type = Unit {0}
LiteralHasType (text s) string_type = Unit {0}
LiteralHasType (entity u) any_entity = Unit {0}
LiteralHasType (entity u) (entity_types ns) = Contains ns u.kind
LiteralHasType p t = ⊥

-- what is asked of a field: the declared type where its name is declared, else that the record is open
abbrev pub FieldFits : Openness → (Ty → Type 0) → Option Declared → Type 0
FieldFits is_open Has None = Unit {0}
FieldFits is_closed Has None = ⊥
FieldFits o Has (Some d) = Has d.type

-- each required attribute is there
abbrev pub HasRequired : Attributes → Fields → Type 0
HasRequired no_attributes fs = Unit {0}
HasRequired (attribute n t r as_) fs = (r ≡ true → is_some (field_of n fs) ≡ true) × HasRequired as_ fs

-- The value is of the type: a set if each member is of the element type, a record if it has the required fields, each
-- declared field is of its type, and it has no other where the type is closed. No value is of `never`.
abbrev mutual
  pub HasType : V → Ty → Type 0
  HasType (prim p) t = LiteralHasType p t
  HasType (set_of vs) any_set = Unit {0}
  HasType (set_of vs) (set_type t) = HaveType vs t
  HasType (record_of fs) (record_type as_ o) = HasRequired as_ fs × FieldsFit as_ o fs
  HasType (extension n k) (extension_type m) = n ≡ m
  HasType v t = ⊥

  pub HaveType : Vs → Ty → Type 0
  HaveType no_values t = Unit {0}
  HaveType (value v vs) t = HasType v t × HaveType vs t

  pub FieldsFit : Attributes → Openness → Fields → Type 0
  FieldsFit as_ o no_fields = Unit {0}
  FieldsFit as_ o (field n v fs) = FieldFits o (HasType v) (attribute_named n as_) × FieldsFit as_ o fs

-- The test.
abbrev pub literal_has_type : Literal → Ty → Bool
literal_has_type (truth b) (bool_type c) = is_of_bool c b
literal_has_type (long n) long_type = true
literal_has_type (text s) string_type = true
literal_has_type (entity u) any_entity = true
literal_has_type (entity u) (entity_types ns) = list_any (name_eq u.kind) ns
literal_has_type p t = false

abbrev pub field_fits : Openness → (Ty → Bool) → Option Declared → Bool
field_fits is_open has None = true
field_fits is_closed has None = false
field_fits o has (Some d) = has d.type

abbrev pub has_required : Attributes → Fields → Bool
has_required no_attributes fs = true
has_required (attribute n t r as_) fs = (not r || is_some (field_of n fs)) && has_required as_ fs

abbrev mutual
  pub has_type : V → Ty → Bool
  has_type (prim p) t = literal_has_type p t
  has_type (set_of vs) any_set = true
  has_type (set_of vs) (set_type t) = have_type vs t
  has_type (record_of fs) (record_type as_ o) = has_required as_ fs && fields_fit as_ o fs
  has_type (extension n k) (extension_type m) = name_eq n m
  has_type v t = false

  pub have_type : Vs → Ty → Bool
  have_type no_values t = true
  have_type (value v vs) t = has_type v t && have_type vs t

  pub fields_fit : Attributes → Openness → Fields → Bool
  fields_fit as_ o no_fields = true
  fields_fit as_ o (field n v fs) = field_fits o (has_type v) (attribute_named n as_) && fields_fit as_ o fs
