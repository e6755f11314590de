-- What the code's kinds of entity types are as they are kept.
-- Rule: schemas (docs/RULES.md).
use Rattle.std.specs.Prelude.{Bool, true, false, Option, map, option_map}
use Rattle.std.specs.Rc.{rc_str_bytes}
use Rattle.cedar_schema_model.specs.Types as model
use Rattle.cedar_schema_model.specs.Schema.{EntityKind, standard, enumerated, external}
use Rattle.cedar_schema_model.specs.Types.{no_attributes, attribute}
use Rattle.cedar_schema_types.specs.Types.{type_of}
use Rattle.cedar_schema_entries.specs.declared.entity_kinds.StandardValidatorEntityType.{StandardValidatorEntityType}
use Rattle.cedar_schema_entries.specs.declared.entity_kinds.ValidatorEntityTypeKind.{ValidatorEntityTypeKind}
use Rattle.cedar_schema_entries.specs.declared.entity_kinds.ValidatorEntityTypeKind.TheVariants.{Standard, Enum, External}

-- the type of the tags of a standard entity type
abbrev pub tags_in : StandardValidatorEntityType → Option model.Ty
tags_in s = option_map type_of s.tags

-- a kind of entity type; a standard one has these attributes
abbrev pub kind_with : model.Attributes → ValidatorEntityTypeKind → EntityKind
kind_with as_ (Standard s) = standard as_ (tags_in s)
kind_with as_ (Enum ids) = enumerated (map rc_str_bytes ids.keys)
kind_with as_ External = external

-- whether there are no attributes
abbrev pub are_none : model.Attributes → Bool
are_none no_attributes = true
are_none (attribute n t r as_) = false

-- whether the attributes are those of the kind: none where it isn't standard
abbrev pub are_of_kind : model.Attributes → ValidatorEntityTypeKind → Bool
are_of_kind as_ (Standard s) = true
are_of_kind as_ (Enum ids) = are_none as_
are_of_kind as_ External = are_none as_
