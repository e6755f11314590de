-- What a refusal tells.
-- Rule: types (docs/RULES.md).
use Rattle.std.specs.Prelude.{◌≡◌, Option, Some, None}
use Rattle.std.specs.declared.result.Result.{Result}
use Rattle.std.specs.declared.result.Result.TheVariants.{Err}
use Rattle.cedar_schema_types.specs.CoreTypes.{Unreadable, of_no_value, of_any_entity, of_several_entity_types}
use Rattle.cedar_schema_types.specs.declared.err.CoreTypeError.{CoreTypeError}
use Rattle.cedar_schema_types.specs.declared.err.CoreTypeError.TheVariants.{OutOfMemory, Never, AnyEntity, SeveralEntityTypes}

-- what stands in the way. Out of memory tells nothing.
abbrev pub refusal : CoreTypeError → Option Unreadable
refusal OutOfMemory = None
refusal Never = Some of_no_value
refusal AnyEntity = Some of_any_entity
refusal SeveralEntityTypes = Some of_several_entity_types

-- What the error tells is what comes first.
abbrev pub Refuses : {A : Type 0} → Result A Unreadable → CoreTypeError → Type 0
Refuses o e = (u : Unreadable) → refusal e ≡ Some u → o ≡ Err u
