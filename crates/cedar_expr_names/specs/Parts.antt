-- What names hold.
pub use Rattle.cedar_expr_names.specs.Ids.{id_text}
use Rattle.std.specs.Prelude.{map, Option}
use Rattle.std.specs.Rc.{rc_str_bytes}
use Rattle.cedar_expr_model.specs.Name.{Name, Text}
use Rattle.cedar_expr_names.specs.declared.loc.Loc.{Loc}
use Rattle.cedar_expr_names.specs.declared.internal_name.InternalName.{InternalName}
use Rattle.cedar_expr_names.specs.Ids.{id_text}

-- the name that a code name holds
abbrev pub name_of : InternalName → Name
name_of n = record { path = map id_text n.content.value.path.items; base = id_text n.content.value.id }

-- the text that a code name keeps, by which names are compared
abbrev pub name_bytes : InternalName → Text
name_bytes n = rc_str_bytes n.content.value.text

-- the place of a code name
abbrev pub name_loc : InternalName → Option Loc
name_loc n = n.content.value.loc
