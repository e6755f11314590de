-- What the code's types are in the model.
-- Rule: types (docs/RULES.md).
use Rattle.std.specs.Prelude.{List, [], ◌∷◌, Option, map}
use Rattle.std.specs.Rc.{rc_str_bytes}
use Rattle.std.specs.declared.alloc.Global.{Global}
use Rattle.std.specs.declared.rc.RcStr.{RcStr}
use Rattle.cedar_expr_model.specs.Name.{Text}
use Rattle.cedar_expr_names.specs.Views.{plain_name_of}
use Rattle.cedar_expr_names.specs.declared.loc.Loc.{Loc}
use Rattle.cedar_schema_model.specs.Types as model
use Rattle.cedar_schema_model.specs.Types.{Ty, never, bool_type, long_type, string_type, any_set, set_type, record_type, extension_type, no_attributes, attribute, Declared}
use Rattle.cedar_schema_types.specs.Kinds.{bool_type_of, openness_of}
use Rattle.cedar_schema_types.specs.Unions.{entities_of}
use Rattle.cedar_schema_types.specs.declared.types.Type.{«Type» as CodeType, Never, Bool, Long, String, Entity, Set', Record, ExtensionType, None', Some'}
use Rattle.cedar_schema_types.specs.declared.types.Attributes.{Attributes, Attributes', out-Attributes, Row_of-AttributeType, end_of-AttributeType, more_of-AttributeType}
use Rattle.cedar_schema_types.specs.declared.types.AttributeType.{AttributeType}

-- the names of entries
abbrev pub texts_of : {A : Type 0} → List (RcStr Global × A) → List Text
texts_of es = map (λ e. rc_str_bytes e.0) es

-- The type of the model, and its attributes.
abbrev mutual
  pub type_of : CodeType → Ty
  type_of Never = never
  type_of (Bool b) = bool_type (bool_type_of b)
  type_of Long = long_type
  type_of String = string_type
  type_of (Entity k) = entities_of k
  type_of (Set' None') = any_set
  type_of (Set' (Some' p t)) = set_type (type_of t)
  type_of (Record as_ o) = record_type (attributes_of as_) (openness_of o)
  type_of (ExtensionType n) = extension_type (plain_name_of n)

  pub attributes_of : Attributes → model.Attributes
  attributes_of (Attributes' p s row) = row_attributes (texts_of s.0) row

  pub row_attributes : {n : _} → List Text → Row_of-AttributeType n → model.Attributes
  row_attributes names end_of-AttributeType = no_attributes
  row_attributes [] (more_of-AttributeType t r l rest) = attribute [] (type_of t) r (row_attributes [] rest)
  row_attributes (a ∷ names) (more_of-AttributeType t r l rest) = attribute a (type_of t) r (row_attributes names rest)

-- what an attribute's type says of the attribute, and where it stands
abbrev pub attribute_of : AttributeType → Declared
attribute_of a = record { type = type_of a.attr_type; is_required = a.is_required }

abbrev pub attribute_place : AttributeType → Option Loc
attribute_place a = a.loc

-- the entries of attributes, rising by name
abbrev pub entries_of : Attributes → List (RcStr Global × AttributeType)
entries_of as_ = (out-Attributes as_).attrs.value.entries
