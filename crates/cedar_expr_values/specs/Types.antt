-- What the code's core types are in the model.
-- Rule: the evident type (docs/RULES.md).
use Rattle.cedar_expr_model.specs.Tree.{CoreType, bool_core, long_core, string_core, set_core, record_core, entity_core, extension_core}
use Rattle.cedar_expr_names.specs.Views.{plain_name_of, type_name_of}
use Rattle.cedar_expr_values.specs.declared.types.Type.{«Type» as CoreKind}
use Rattle.cedar_expr_values.specs.declared.types.Type.TheVariants.{Bool, Long, String, Set, Record, Entity, Extension}

-- the core type of the model
abbrev pub core_of : CoreKind → CoreType
core_of Bool = bool_core
core_of Long = long_core
core_of String = string_core
core_of Set = set_core
core_of Record = record_core
core_of (Entity t) = entity_core (type_name_of t)
core_of (Extension n) = extension_core (plain_name_of n)
