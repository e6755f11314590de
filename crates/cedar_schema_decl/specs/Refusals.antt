-- What an error tells.
-- Rule: references (docs/RULES.md).
use Rattle.std.specs.Prelude.{◌≡◌, Option, Some, None}
use Rattle.std.specs.declared.result.Result.{Result}
use Rattle.std.specs.declared.result.Result.TheVariants.{Err}
use Rattle.cedar_schema_decl.specs.Conditional.{Conditional, conditional_of}
use Rattle.cedar_schema_decl.specs.declared.err.TypeNotDefinedError.{TypeNotDefinedError}
use Rattle.cedar_schema_decl.specs.declared.err.TypeNotDefinedError.TheVariants.{OutOfMemory, Undefined}

-- the name that stands for nothing. Out of memory tells none.
abbrev pub undefined : TypeNotDefinedError → Option Conditional
undefined OutOfMemory = None
undefined (Undefined c) = Some (conditional_of c)

-- The name that the error tells, if it tells one, is the outcome.
abbrev pub RefusesBy : {B E : Type 0} → (E → Option Conditional) → Result B Conditional → E → Type 0
RefusesBy tells o e = (c : Conditional) → tells e ≡ Some c → o ≡ Err c

abbrev pub Refuses : {B : Type 0} → Result B Conditional → TypeNotDefinedError → Type 0
Refuses o e = RefusesBy undefined o e
