-- What a function of a table answers, and what has to be known of one that is stored.
-- Rule: extension functions (docs/RULES.md).
use Rattle.std.specs.Prelude.{◌≡◌, ◌&&◌, List, Bool, true, false, Option, Some, None, is_none, Result, Ok, Err}
use Rattle.std.specs.Option.{option_map_or}
use Rattle.std.specs.Str.{bytes_eq}
use Rattle.std.specs.Borrow.{Bor}
use Rattle.std.specs.declared.alloc.Global.{Global}
use Rattle.cedar_expr_model.specs.Name.{name_eq}
use Rattle.cedar_expr_model.specs.Tree.{CoreType}
use Rattle.cedar_expr_model.specs.Order.{core_eq, value_eq}
use Rattle.cedar_expr_model.specs.Substitution.{core_type_of}
use Rattle.cedar_expr_model.specs.Table.{Signature, Called, gives, fails, leaves}
use Rattle.cedar_expr_names.specs.Views.{plain_name_of}
use Rattle.cedar_expr_values.specs.Values.{bare}
use Rattle.cedar_expr_values.specs.Extensions.{extension_of}
use Rattle.cedar_expr_values.specs.declared.value.Value.{Value}
use Rattle.cedar_expr_values.specs.declared.extension.ExtValue.{ExtValue}
use Rattle.cedar_expr_trees.specs.Unknowns.{unknown_of}
use Rattle.cedar_expr_functions.specs.Signatures.{takes, bare_values}
use Rattle.cedar_expr_functions.specs.declared.extension.ExtensionOutputValue.{ExtensionOutputValue}
use Rattle.cedar_expr_functions.specs.declared.extension.ExtensionOutputValue.TheVariants.{Known, Unknown}
use Rattle.cedar_expr_functions.specs.declared.err.CallFault.{CallFault}
use Rattle.cedar_expr_functions.specs.declared.err.CallFault.TheVariants.{OutOfMemory, WrongNumArguments, ArgumentType, Fault}

-- The answer of a call: a value, an unknown that it leaves, or the failure of an extension. Out of memory is none, nor is a
-- refusal of the arguments.
abbrev pub answer : Result ExtensionOutputValue CallFault → Option Called
answer (Ok (Known v)) = Some (gives (bare extension_of v))
answer (Ok (Unknown u)) = Some (leaves (unknown_of u).name)
answer (Err OutOfMemory) = None
answer (Err (WrongNumArguments f m n)) = None
answer (Err (ArgumentType a b)) = None
answer (Err (Fault e m a)) = Some (fails (plain_name_of e))

-- whether two answers of calls are equal: the values that they give, the names of their failures, or the unknowns that they leave
abbrev pub called_eq : Called → Called → Bool
called_eq (gives v) (gives w) = value_eq v w
called_eq (fails m) (fails n) = name_eq m n
called_eq (leaves s) (leaves t) = bytes_eq s t
called_eq c d = false

-- whether two answers of calls are equal, where both are there; true where one is missing
abbrev pub agree : Option Called → Option Called → Bool
agree (Some c) (Some d) = called_eq c d
agree o p = true

-- what a function of this result type gives: a value of it, or, where there is no result type, an unknown without annotation
abbrev pub is_output : Option CoreType → ExtensionOutputValue → Bool
is_output r (Known v) = option_map_or (λ t. core_eq t (core_type_of (bare extension_of v))) r false
is_output r (Unknown u) = is_none r && is_none (unknown_of u).annotation

-- that, or a failure; there may be no memory
abbrev pub is_of_result : Option CoreType → Result ExtensionOutputValue CallFault → Bool
is_of_result r (Ok o) = is_output r o
is_of_result r (Err OutOfMemory) = true
is_of_result r (Err (WrongNumArguments f m n)) = false
is_of_result r (Err (ArgumentType a b)) = false
is_of_result r (Err (Fault e m a)) = true

-- The facts of a stored function, by where it may be called and what it may answer: it may be called on arguments that its
-- signature takes, and there it answers equal arguments alike and gives what its result type says or fails.
pub record IsStored (s : Signature) (pre : Global → Bor (List (Value ExtValue)) → Type 0) (post : Global → Bor (List (Value ExtValue)) → Result ExtensionOutputValue CallFault → Type 0) : Type 0 where
  pub callable : (a : Global) (xs : Bor (List (Value ExtValue))) → takes s (bare_values xs.now) ≡ true → pre a xs
  pub answers_alike : (a b : Global) (xs ys : Bor (List (Value ExtValue))) (p q : Result ExtensionOutputValue CallFault) → takes s (bare_values xs.now) ≡ true → bare_values xs.now ≡ bare_values ys.now → post a xs p → post b ys q → agree (answer p) (answer q) ≡ true
  pub of_result : (a : Global) (xs : Bor (List (Value ExtValue))) (p : Result ExtensionOutputValue CallFault) → takes s (bare_values xs.now) ≡ true → post a xs p → is_of_result s.result p ≡ true
