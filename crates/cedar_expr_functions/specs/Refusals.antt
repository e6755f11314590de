-- What the refusals of this crate say.
-- Rule: extension functions (docs/RULES.md).
use Rattle.std.specs.Prelude.{◌≡◌, true, false, List, length, Option, Some, None}
use Rattle.cedar_expr_model.specs.Value.{V}
use Rattle.cedar_expr_model.specs.Table.{Signature, Table, signature_of, takes_count}
use Rattle.cedar_expr_model.specs.Repeats.{repeated, repeated_function, repeated_constructor, table_fault}
use Rattle.cedar_expr_model.specs.Name.{Name, name_eq}
use Rattle.cedar_expr_model.specs.Tree.{CoreType}
use Rattle.cedar_expr_model.specs.Order.{core_eq}
use Rattle.cedar_expr_names.specs.Views.{plain_name_of}
use Rattle.cedar_expr_values.specs.Types.{core_of}
use Rattle.cedar_expr_functions.specs.Signatures.{takes, first_mistyped}
use Rattle.cedar_expr_names.specs.declared.loc.Loc.{Loc}
use Rattle.cedar_expr_functions.specs.declared.err.ExtensionFunctionLookupError.{ExtensionFunctionLookupError}
use Rattle.cedar_expr_functions.specs.declared.err.ExtensionFunctionLookupError.TheVariants as lookup
use Rattle.cedar_expr_functions.specs.declared.err.ExtensionInitializationError.{ExtensionInitializationError}
use Rattle.cedar_expr_functions.specs.declared.err.ExtensionInitializationError.TheVariants as initialization
use Rattle.cedar_expr_functions.specs.declared.err.CallFault.{CallFault}
use Rattle.cedar_expr_functions.specs.declared.err.CallFault.TheVariants.{OutOfMemory, WrongNumArguments, ArgumentType, Fault}

-- The fault is there in a call of this function on these arguments: it doesn't take as many, or the first that isn't of its
-- type isn't, or it took them and failed. Out of memory says nothing.
abbrev pub RefusesCall : Signature → List V → CallFault → Type 0
RefusesCall s vs OutOfMemory = Unit {0}
RefusesCall s vs (WrongNumArguments f m n) = (takes_count s (length vs) ≡ false) × (plain_name_of f ≡ s.name) × (m ≡ length s.parameters) × (n ≡ length vs)
RefusesCall s vs (ArgumentType a b) = (takes_count s (length vs) ≡ true) × (first_mistyped s.parameters vs ≡ Some (core_of a, core_of b))
RefusesCall s vs (Fault e m a) = takes s vs ≡ true

-- The table has no function of this name. Out of memory says nothing.
abbrev pub RefusesLookup : Table → Name → Option Loc → ExtensionFunctionLookupError → Type 0
RefusesLookup x n l lookup.OutOfMemory = Unit {0}
RefusesLookup x n l (lookup.FuncDoesNotExist e) = (signature_of x n ≡ None) × (plain_name_of e.name ≡ n) × (e.source_loc ≡ l)

-- The fault is that of the functions. Out of memory says nothing.
abbrev pub RefusesTable : List Signature → ExtensionInitializationError → Type 0
RefusesTable ss initialization.OutOfMemory = Unit {0}
RefusesTable ss (initialization.FuncMultiplyDefined e) = table_fault ss ≡ Some (repeated_function (plain_name_of e.name))
RefusesTable ss (initialization.MultipleConstructorsSameSignature e) = table_fault ss ≡ Some (repeated_constructor (core_of e.return_type))

-- A name is repeated among these. Out of memory says nothing.
abbrev pub RefusesNames : List Name → ExtensionInitializationError → Type 0
RefusesNames ns initialization.OutOfMemory = Unit {0}
RefusesNames ns (initialization.FuncMultiplyDefined e) = repeated name_eq ns ≡ Some (plain_name_of e.name)
RefusesNames ns (initialization.MultipleConstructorsSameSignature e) = ⊥

-- A type is repeated among these. Out of memory says nothing.
abbrev pub RefusesConstructors : List CoreType → ExtensionInitializationError → Type 0
RefusesConstructors ts initialization.OutOfMemory = Unit {0}
RefusesConstructors ts (initialization.FuncMultiplyDefined e) = ⊥
RefusesConstructors ts (initialization.MultipleConstructorsSameSignature e) = repeated core_eq ts ≡ Some (core_of e.return_type)
