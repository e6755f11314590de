-- What is wrong with a call in an expression, what a refusal says of it, and the types that an expression and a function show.
-- Rule: extension functions; the evident type (docs/RULES.md).
use Rattle.std.specs.Prelude.{◌≡◌, ℕ, true, List, [], length, find, Option, Some, None, if◌then◌else◌, option_and_then}
use Rattle.std.specs.Option.{option_map_or}
use Rattle.cedar_expr_names.specs.Views.{plain_name_of}
use Rattle.cedar_expr_model.specs.Name.{Name, name_eq}
use Rattle.cedar_expr_model.specs.Lists.{first_found}
use Rattle.cedar_expr_model.specs.Parts.{subexpressions, listed}
use Rattle.cedar_expr_model.specs.Table.{Signature, Table, takes_count, gives}
use Rattle.cedar_expr_model.specs.Tree.{CoreType, Tree, call}
use Rattle.cedar_expr_model.specs.Value.{truth_value}
use Rattle.cedar_expr_model.specs.Evident.{evident_type}
use Rattle.cedar_expr_functions.specs.declared.check_err.ExprValidationError.{ExprValidationError}
use Rattle.cedar_expr_functions.specs.declared.check_err.ExprValidationError.TheVariants.{OutOfMemory, FuncDoesNotExist, WrongNumArguments}

-- What is wrong with a call: there is no function of the name, or one of so many types of arguments has another count of them.
pub data WrongCall : Type 0 where
  no_function : Name → WrongCall
  wrong_count : Name → ℕ → ℕ → WrongCall

abbrev pub wrong_by_count : Name → ℕ → Signature → Option WrongCall
wrong_by_count f n s = if takes_count s n then None else Some (wrong_count f (length s.parameters) n)

-- of a name and a count of arguments, among these functions
abbrev pub wrong_by_name : List Signature → Name → ℕ → Option WrongCall
wrong_by_name ss f n = option_map_or (wrong_by_count f n) (find (λ s. name_eq f s.name) ss) (Some (no_function f))

-- of an expression by itself
abbrev pub wrong_call : List Signature → Tree → Option WrongCall
wrong_call ss (call f ts) = wrong_by_name ss f (length (listed ts))
wrong_call ss t = None

-- the first of an expression, a node before its children, and children in order
abbrev pub first_wrong_call : List Signature → Tree → Option WrongCall
first_wrong_call ss t = first_found (wrong_call ss) (subexpressions t)

-- The fault is this. Out of memory says nothing.
abbrev pub IsWrongCall : Option WrongCall → ExprValidationError → Type 0
IsWrongCall o OutOfMemory = Unit {0}
IsWrongCall o (FuncDoesNotExist f) = o ≡ Some (no_function (plain_name_of f))
IsWrongCall o (WrongNumArguments f m n) = o ≡ Some (wrong_count (plain_name_of f) m n)

-- The fault is the first of the expression under the table.
abbrev pub RefusesExpression : Table → Tree → ExprValidationError → Type 0
RefusesExpression x t e = IsWrongCall (first_wrong_call x.functions t) e

-- the type that an expression shows among these functions: answers don't count
abbrev pub type_shown : List Signature → Tree → Option CoreType
type_shown ss t = evident_type (record { functions = ss; ordered = []; answers = λ f vs. gives (truth_value true) }) t

-- the result type of the function of this name
abbrev pub result_of : List Signature → Name → Option CoreType
result_of ss f = option_and_then (λ s. s.result) (find (λ s. name_eq f s.name) ss)
