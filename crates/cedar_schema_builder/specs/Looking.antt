-- A name that was looked for.
-- Rule: well-formed declarations (docs/RULES.md).
use Rattle.std.specs.Prelude.{Option, option_map}
use Rattle.std.specs.Borrow.{Bor}
use Rattle.cedar_expr_model.specs.Name.{Name}
use Rattle.cedar_expr_names.specs.Views.{name_of}
use Rattle.cedar_expr_names.specs.declared.internal_name.InternalName.{InternalName}

-- the name that was found, if one was
abbrev pub name_found : Option (Bor InternalName) → Option Name
name_found o = option_map (λ n. name_of n.now) o
