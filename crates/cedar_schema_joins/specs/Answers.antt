-- What the test of a restricted expression and a type answers, as a result of the code.
-- Rule: values of a type; restricted expressions (docs/RULES.md).
use Rattle.std.specs.Prelude.{◌≡◌, List, Bool, Result, Ok, Err}
use Rattle.cedar_expr_model.specs.Name.{Name}
use Rattle.cedar_expr_model.specs.Table.{Signature}
use Rattle.cedar_expr_model.specs.Tree.{Trees, call}
use Rattle.cedar_schema_model.specs.Types.{Ty}
use Rattle.cedar_expr_names.specs.Views.{plain_name_of}
use Rattle.cedar_expr_functions.specs.declared.err.ExtensionFunctionLookupError.{ExtensionFunctionLookupError}
use Rattle.cedar_expr_functions.specs.declared.err.ExtensionFunctionLookupError.TheVariants.{OutOfMemory, FuncDoesNotExist}
use Rattle.cedar_schema_model.specs.Restricted.{Asked, no_function, asked_truth, asked_for}

-- The fault is that the function that lacks isn't there. Out of memory says nothing.
abbrev pub RefusesAsked : Asked → ExtensionFunctionLookupError → Type 0
RefusesAsked a OutOfMemory = Unit {0}
RefusesAsked a (FuncDoesNotExist e) = a ≡ no_function (plain_name_of e.name)

-- The result is that of the test: yes, no, or the function that lacks.
abbrev pub AnswersAsked : Asked → Result Bool ExtensionFunctionLookupError → Type 0
AnswersAsked a (Ok b) = a ≡ asked_truth b
AnswersAsked a (Err e) = RefusesAsked a e

-- of a call of this function, whatever its arguments
pub record AnswersCall (ss : List Signature) (f : Name) (t : Ty) (r : Result Bool ExtensionFunctionLookupError) : Type 0 where
  pub each : (ts : Trees) → AnswersAsked (asked_for ss (call f ts) t) r
