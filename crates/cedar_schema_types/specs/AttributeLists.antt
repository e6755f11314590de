-- Attributes as a list of names with what is declared of each.
-- Rule: types (docs/RULES.md).
use Rattle.std.specs.Prelude.{List, [], ◌∷◌, map, true}
use Rattle.std.specs.Rc.{rc_str_bytes}
use Rattle.std.specs.declared.alloc.Global.{Global}
use Rattle.std.specs.declared.rc.RcStr.{RcStr}
use Rattle.cedar_expr_model.specs.Name.{Text}
use Rattle.cedar_schema_model.specs.Types.{Attributes, no_attributes, attribute, Declared}
use Rattle.cedar_schema_types.specs.Types.{type_of, attribute_of}
use Rattle.cedar_schema_types.specs.declared.types.AttributeType.{AttributeType}
use Rattle.cedar_schema_types.specs.declared.types.Type.{«Type» as CodeType}

-- these attributes, in this order
abbrev pub attributes_from : List (Text × Declared) → Attributes
attributes_from [] = no_attributes
attributes_from (p ∷ ps) = attribute p.0 p.1.type p.1.is_required (attributes_from ps)

-- names with what is declared of them
abbrev pub declared_pair : RcStr Global × AttributeType → Text × Declared
declared_pair e = (rc_str_bytes e.0, attribute_of e.1)

abbrev pub declared_pairs : List (RcStr Global × AttributeType) → List (Text × Declared)
declared_pairs es = map declared_pair es

-- names with types, as required attributes
abbrev pub required_pair : RcStr Global × CodeType → Text × Declared
required_pair e = (rc_str_bytes e.0, record { type = type_of e.1; is_required = true })

abbrev pub required_pairs : List (RcStr Global × CodeType) → List (Text × Declared)
required_pairs es = map required_pair es

-- the names of attributes
abbrev pub names_in : Attributes → List Text
names_in no_attributes = []
names_in (attribute n t r as_) = n ∷ names_in as_
