-- What a function of a table is: its signature, and what it answers.
-- Rule: extension functions (docs/RULES.md).
use Rattle.std.specs.Prelude.{◌≡◌, List, Bool, true, Option, Some, Result, Ok, Err, map, option_map}
use Rattle.std.specs.Borrow.{Bor}
use Rattle.std.specs.declared.alloc.Global.{Global}
use Rattle.cedar_expr_model.specs.Name.{Name}
use Rattle.cedar_expr_model.specs.Value.{V}
use Rattle.cedar_expr_model.specs.Table.{Signature, Called}
use Rattle.cedar_expr_names.specs.Views.{plain_name_of}
use Rattle.cedar_expr_values.specs.Types.{core_of}
use Rattle.cedar_expr_values.specs.declared.value.Value.{Value}
use Rattle.cedar_expr_values.specs.declared.extension.ExtValue.{ExtValue}
use Rattle.cedar_expr_functions.specs.Styles.{style_of}
use Rattle.cedar_expr_functions.specs.Signatures.{signature, takes, bare_values}
use Rattle.cedar_expr_functions.specs.Answers.{answer, agree}
use Rattle.cedar_expr_functions.specs.declared.extension.ExtensionFunction.{ExtensionFunction}
use Rattle.cedar_expr_functions.specs.declared.extension.ExtensionOutputValue.{ExtensionOutputValue}
use Rattle.cedar_expr_functions.specs.declared.err.CallFault.{CallFault}
use Rattle.cedar_expr_functions.specs.declared.err.CallFault.TheVariants.{OutOfMemory, WrongNumArguments, ArgumentType, Fault}

-- the name of a function
abbrev pub function_name : {B : _} {F : _} {g : _} → ExtensionFunction B F g → Name
function_name f = plain_name_of f.name

-- the signature of a function
abbrev pub function_signature : {B : _} {F : _} {g : _} → ExtensionFunction B F g → Signature
function_signature f = signature (plain_name_of f.name) (style_of f.style) (map core_of f.arg_types.items) f.variadic (option_map core_of f.return_type)

-- a call of the function that is stored may answer this
abbrev pub MayAnswer : {B : _} {F : _} {g : _} → ExtensionFunction B F g → Global → Bor (List (Value ExtValue)) → Result ExtensionOutputValue CallFault → Type 0
MayAnswer {B} {F} {g} f a xs r = g.post (f.func.vtable, f.func.value) (a, (xs, tt)) r

-- The function answers as this function of the model does, on arguments that it takes.
pub record IsAnsweredBy {B : _} {F : _} {g : _} (f : ExtensionFunction B F g) (answers : List V → Called) : Type 0 where
  pub agreeing : (a : Global) (xs : Bor (List (Value ExtValue))) (r : Result ExtensionOutputValue CallFault) → takes (function_signature f) (bare_values xs.now) ≡ true → MayAnswer f a xs r → agree (Some (answers (bare_values xs.now))) (answer r) ≡ true

-- The answer is that of each function of the model by which the function is answered.
pub record AgreesWithModel {B : _} {F : _} {g : _} (f : ExtensionFunction B F g) (vs : List V) (r : Result ExtensionOutputValue CallFault) : Type 0 where
  pub agreeing : (answers : List V → Called) → IsAnsweredBy f answers → agree (Some (answers vs)) (answer r) ≡ true

-- What was asked of the function and is handed on: out of memory and refusals of the arguments weren't.
abbrev pub IfAsked : (Result ExtensionOutputValue CallFault → Type 0) → Result ExtensionOutputValue CallFault → Type 0
IfAsked P (Ok o) = P (Ok o)
IfAsked P (Err OutOfMemory) = Unit {0}
IfAsked P (Err (WrongNumArguments f m n)) = Unit {0}
IfAsked P (Err (ArgumentType a b)) = Unit {0}
IfAsked P (Err (Fault e m a)) = P (Err (Fault e m a))

-- The function answers only what `post` allows.
abbrev pub AnswersBy : {B : _} {F : _} {g : _} → (Global → Bor (List (Value ExtValue)) → Result ExtensionOutputValue CallFault → Type 0) → ExtensionFunction B F g → Type 0
AnswersBy post f = (a : Global) (xs : Bor (List (Value ExtValue))) (r : Result ExtensionOutputValue CallFault) → MayAnswer f a xs r → post a xs r
