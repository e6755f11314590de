-- What the code's common types stand for.
-- Rule: schemas (docs/RULES.md).
use Rattle.std.specs.Prelude.{Option, Some, None, option_map, if◌then◌else◌}
use Rattle.std.specs.Option.{option_map_or}
use Rattle.std.specs.Map.{lookup}
use Rattle.cedar_expr_model.specs.Name.{Name, name_eq}
use Rattle.cedar_expr_names.specs.Views.{name_of}
use Rattle.cedar_schema_model.specs.Types.{Ty, never}
use Rattle.cedar_schema_types.specs.Types.{type_of}
use Rattle.cedar_schema_resolver.specs.declared.common_types.CommonTypes.{CommonTypes}

-- the type that the common type of this name stands for; a name that isn't there stands for none
abbrev pub common_seen : CommonTypes → Name → Ty
common_seen c n = option_map_or type_of (lookup (λ k. name_eq n (name_of k)) c.types.entries) never

-- without any common type
abbrev pub no_commons : Name → Ty
no_commons n = never

-- with one more, in the place of one of its name
abbrev pub commons_with : Name → Ty → (Name → Ty) → Name → Ty
commons_with m t commons n = if name_eq n m then t else commons n

-- The type that is kept under this name, if one is. One that stands for no value is kept too.
abbrev pub common_kept : CommonTypes → Name → Option Ty
common_kept c n = option_map type_of (lookup (λ k. name_eq n (name_of k)) c.types.entries)

-- nothing kept
abbrev pub none_kept : Name → Option Ty
none_kept n = None

-- with one more, in the place of one of its name
abbrev pub kept_with : Name → Ty → (Name → Option Ty) → Name → Option Ty
kept_with m t kept n = if name_eq n m then Some t else kept n
