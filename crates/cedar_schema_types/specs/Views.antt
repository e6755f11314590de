-- What the code's types by which values can be read are in the model.
-- Rule: types (docs/RULES.md).
use Rattle.std.specs.Prelude.{List, [], ◌∷◌, map}
use Rattle.std.specs.Rc.{rc_str_bytes}
use Rattle.std.specs.declared.alloc.Global.{Global}
use Rattle.std.specs.declared.rc.RcStr.{RcStr}
use Rattle.cedar_expr_model.specs.Name.{Text}
use Rattle.cedar_expr_names.specs.Views.{plain_name_of, type_name_of}
use Rattle.cedar_schema_types.specs.CoreTypes as model
use Rattle.cedar_schema_types.specs.CoreTypes.{CoreType, core_bool, core_long, core_string, core_empty_set, core_set, core_record, core_entity, core_extension, no_core_attributes, core_attribute, CoreDeclared}
use Rattle.cedar_schema_types.specs.declared.core_types.CoreSchemaType.{CoreSchemaType, Bool, Long, String, Set', EmptySet, Record, Entity, Extension}
use Rattle.cedar_schema_types.specs.declared.core_types.CoreAttributes.{CoreAttributes, CoreAttributes', out-CoreAttributes, Row_of-CoreAttributeType, end_of-CoreAttributeType, more_of-CoreAttributeType}
use Rattle.cedar_schema_types.specs.declared.core_types.CoreAttributeType.{CoreAttributeType}

-- the names of entries
abbrev pub texts_of : {A : Type 0} → List (RcStr Global × A) → List Text
texts_of es = map (λ e. rc_str_bytes e.0) es

-- The type of the model, and its attributes.
abbrev mutual
  pub core_type_of : CoreSchemaType → CoreType
  core_type_of Bool = core_bool
  core_type_of Long = core_long
  core_type_of String = core_string
  core_type_of (Set' p t) = core_set (core_type_of t)
  core_type_of EmptySet = core_empty_set
  core_type_of (Record as_ o) = core_record (core_attributes_of as_) o
  core_type_of (Entity t) = core_entity (type_name_of t)
  core_type_of (Extension n) = core_extension (plain_name_of n)

  pub core_attributes_of : CoreAttributes → model.CoreAttributes
  core_attributes_of (CoreAttributes' p s row) = core_row (texts_of s.0) row

  pub core_row : {n : _} → List Text → Row_of-CoreAttributeType n → model.CoreAttributes
  core_row names end_of-CoreAttributeType = no_core_attributes
  core_row [] (more_of-CoreAttributeType t r rest) = core_attribute [] (core_type_of t) r (core_row [] rest)
  core_row (a ∷ names) (more_of-CoreAttributeType t r rest) = core_attribute a (core_type_of t) r (core_row names rest)

-- what is declared of an attribute, and of one with its name
abbrev pub core_declared_of : CoreAttributeType → CoreDeclared
core_declared_of a = record { type = core_type_of a.attr_type; required = a.required }

abbrev pub core_pair : RcStr Global × CoreAttributeType → Text × CoreDeclared
core_pair e = (rc_str_bytes e.0, core_declared_of e.1)

abbrev pub core_pairs : List (RcStr Global × CoreAttributeType) → List (Text × CoreDeclared)
core_pairs es = map core_pair es

-- the entries of attributes, rising by name
abbrev pub core_entries : CoreAttributes → List (RcStr Global × CoreAttributeType)
core_entries as_ = (out-CoreAttributes as_).attrs.value.entries
