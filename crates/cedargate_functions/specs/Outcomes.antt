-- What a call of `rank` or `label` comes to.
-- Rule: extension functions (docs/RULES.md).
use Rattle.std.specs.Prelude.{◌≡◌, List, None, Result, Ok, Err, map, codes, string_bytes}
use Rattle.cedar_expr_names.specs.Views.{plain_name_of}
use Rattle.cedar_expr_values.specs.Values.{made}
use Rattle.cedar_expr_values.specs.Extensions.{extension_of}
use Rattle.cedar_expr_values.specs.declared.value.Value.{Value}
use Rattle.cedar_expr_values.specs.declared.extension.ExtValue.{ExtValue}
use Rattle.cedar_expr_functions.specs.declared.extension.ExtensionOutputValue.{ExtensionOutputValue}
use Rattle.cedar_expr_functions.specs.declared.extension.ExtensionOutputValue.TheVariants.{Known, Unknown}
use Rattle.cedar_expr_functions.specs.declared.err.CallFault.{CallFault}
use Rattle.cedar_expr_functions.specs.declared.err.CallFault.TheVariants.{OutOfMemory, WrongNumArguments, ArgumentType, Fault}
use Rattle.cedar_expr_model.specs.Made.{Made}
use Rattle.cedar_evaluator_model.specs.Scope.{MadeCalled, makes, faults}

-- The call gave this value as it is made, or has this fault, which says `not a rank` and no advice. There may be no memory.
abbrev pub ComesTo : MadeCalled → Result ExtensionOutputValue CallFault → Type 0
ComesTo c (Ok (Known v)) = c ≡ makes (made extension_of v)
ComesTo c (Ok (Unknown u)) = ⊥
ComesTo c (Err OutOfMemory) = Unit {0}
ComesTo c (Err (WrongNumArguments f m n)) = ⊥
ComesTo c (Err (ArgumentType a b)) = ⊥
ComesTo c (Err (Fault e m a)) = (c ≡ faults (plain_name_of e)) × (string_bytes m ≡ codes "not a rank") × (a ≡ None)

-- values as they were made
abbrev pub made_values : List (Value ExtValue) → List Made
made_values vs = map (made extension_of) vs
