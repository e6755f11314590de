-- What types, common types and namespaces with places hold.
-- Rule: types; declarations (docs/RULES.md).
use Rattle.std.specs.Prelude.{Option}
use Rattle.cedar_expr_model.specs.Name.{Name}
use Rattle.cedar_expr_names.specs.Views.{name_of, name_loc}
use Rattle.cedar_expr_names.specs.declared.loc.Loc.{Loc}
use Rattle.cedar_schema_model.specs.Types.{Ty}
use Rattle.cedar_schema_types.specs.Types.{type_of}
use Rattle.cedar_schema_built.specs.declared.located_type.LocatedType.{LocatedType}
use Rattle.cedar_schema_built.specs.declared.common_type.LocatedCommonType.{LocatedCommonType}
use Rattle.cedar_schema_built.specs.declared.namespace.LocatedNamespace.{LocatedNamespace}

-- the type, and its place
abbrev pub located_type : LocatedType → Ty
located_type t = type_of t.ty

abbrev pub type_place : LocatedType → Option Loc
type_place t = t.loc

-- A common type as it is listed: its name, the name's place, and that of its type.
pub record ListedCommon : Type 0 where
  pub name : Name
  pub name_place : Option Loc
  pub type_place : Option Loc

-- A namespace as it is listed: its name, the name's place, and that of its definition.
pub record ListedSpace : Type 0 where
  pub name : Name
  pub name_place : Option Loc
  pub definition_place : Option Loc

abbrev pub common_listed : LocatedCommonType → ListedCommon
common_listed c = record { name = name_of c.full_name; name_place = name_loc c.full_name; type_place = c.type_loc }

abbrev pub space_listed : LocatedNamespace → ListedSpace
space_listed n = record { name = name_of n.full_name; name_place = name_loc n.full_name; definition_place = n.def_loc }
