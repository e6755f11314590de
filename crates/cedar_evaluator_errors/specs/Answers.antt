-- How the functions of a table answer, with the calls that make their values.
-- Rule: extension functions (docs/RULES.md).
use Rattle.std.specs.Prelude.{◌≡◌, List, true, Contains, Result, Ok, Err, map}
use Rattle.std.specs.Borrow.{Bor}
use Rattle.std.specs.declared.alloc.Global.{Global}
use Rattle.cedar_expr_model.specs.Name.{Name}
use Rattle.cedar_expr_model.specs.Made.{Made}
use Rattle.cedar_expr_names.specs.Views.{plain_name_of}
use Rattle.cedar_expr_values.specs.Values.{made}
use Rattle.cedar_expr_values.specs.Extensions.{extension_of}
use Rattle.cedar_expr_values.specs.declared.value.Value.{Value}
use Rattle.cedar_expr_values.specs.declared.extension.ExtValue.{ExtValue}
use Rattle.cedar_expr_trees.specs.Unknowns.{unknown_of}
use Rattle.cedar_expr_functions.specs.Signatures.{takes, bare_values}
use Rattle.cedar_expr_functions.specs.Functions.{function_name, function_signature, MayAnswer}
use Rattle.cedar_expr_functions.specs.Tables.{stored_in}
use Rattle.cedar_expr_functions.specs.declared.extension.ExtensionFunction.{ExtensionFunction}
use Rattle.cedar_expr_functions.specs.declared.extension.ExtensionOutputValue.{ExtensionOutputValue}
use Rattle.cedar_expr_functions.specs.declared.extension.ExtensionOutputValue.TheVariants.{Known, Unknown}
use Rattle.cedar_expr_functions.specs.declared.err.CallFault.{CallFault}
use Rattle.cedar_expr_functions.specs.declared.err.CallFault.TheVariants.{OutOfMemory, WrongNumArguments, ArgumentType, Fault}
use Rattle.cedar_expr_functions.specs.declared.extensions.Extensions.{Extensions}
use Rattle.cedar_evaluator_model.specs.OfLaws.WellMade.{MakeValues}
use Rattle.cedar_evaluator_model.specs.Scope.{MadeCalled, makes, faults, leaves_unknown}

-- A call's outcome is this answer, its value with the call that makes it. Out of memory is none, nor is a refusal of the arguments.
abbrev pub IsAnswer : MadeCalled → Result ExtensionOutputValue CallFault → Type 0
IsAnswer c (Ok (Known v)) = c ≡ makes (made extension_of v)
IsAnswer c (Ok (Unknown u)) = c ≡ leaves_unknown (unknown_of u).name
IsAnswer c (Err OutOfMemory) = Unit {0}
IsAnswer c (Err (WrongNumArguments f m n)) = Unit {0}
IsAnswer c (Err (ArgumentType a b)) = Unit {0}
IsAnswer c (Err (Fault e m a)) = c ≡ faults (plain_name_of e)

-- The function answers so, on arguments that it takes.
pub record IsMadeBy {B : _} {F : _} {g : _} (f : ExtensionFunction B F g) (answers : List Made → MadeCalled) : Type 0 where
  pub agreeing : (a : Global) (xs : Bor (List (Value ExtValue))) (r : Result ExtensionOutputValue CallFault) → takes (function_signature f) (bare_values xs.now) ≡ true
      → MayAnswer f a xs r → IsAnswer (answers (map (made extension_of) xs.now)) r

-- Each function of the table does, and what the calls make are values.
pub record AnswersMade {B : _} {F : _} {g : _} (t : Extensions B F g) (calls : Name → List Made → MadeCalled) : Type 0 where
  pub values : MakeValues calls
  pub each : (f : ExtensionFunction B F g) → Contains (stored_in t) f → IsMadeBy f (calls (function_name f))
