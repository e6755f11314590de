-- The type that typing gives.
-- Rule: typing (docs/RULES.md).
use Rattle.std.specs.Prelude.{◌≡◌, Option, option_map}
use Rattle.cedar_schema_model.specs.Types.{Ty}
use Rattle.cedar_schema_types.specs.Types.{type_of}
use Rattle.cedar_schema_types.specs.declared.types.Type.{«Type» as CodeType}

-- The code type is this type, if there is one.
abbrev pub GivesType : Option Ty → Option CodeType → Type 0
GivesType t c = option_map type_of c ≡ t
