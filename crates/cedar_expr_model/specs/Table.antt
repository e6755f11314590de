-- Extension functions: signatures, and what a call of one answers.
-- Rule: extension functions (docs/RULES.md).
use Rattle.std.specs.Prelude.{◌&&◌, ◌==◌, ℕ, List, [], ◌∷◌, length, nat_le, find, Bool, true, false, Option, Some, None, if◌then◌else◌, is_some}
use Rattle.std.specs.List.{list_all, list_any}
use Rattle.cedar_expr_model.specs.Name.{Text, Name, name_eq}
use Rattle.cedar_expr_model.specs.Value.{V}
use Rattle.cedar_expr_model.specs.Tree.{CoreType, string_core, extension_core}
use Rattle.cedar_expr_model.specs.Order.{core_eq}
use Rattle.cedar_expr_model.specs.Substitution.{core_type_of}

-- how a call is written
pub data CallStyle : Type 0 where
  function_style method_style : CallStyle

-- A function: its arguments are of these types, and where it is variadic further ones are of the last of them.
pub record Signature : Type 0 where
  pub name : Name
  pub style : CallStyle
  pub parameters : List CoreType
  pub is_variadic : Bool
  pub result : Option CoreType

-- What a call answers: a value, the failure of an extension of this name, or the unknown of this name.
pub data Called : Type 0 where
  gives : V → Called
  fails : Name → Called
  leaves : Text → Called

-- A table of functions: their signatures, the extension types whose values are ordered, and the answers.
pub record Table : Type 0 where
  pub functions : List Signature
  pub ordered : List Name
  pub answers : Name → List V → Called

-- the first function of this name in a table
abbrev pub signature_of : Table → Name → Option Signature
signature_of t f = find (λ s. name_eq f s.name) t.functions

-- whether values of the extension type are ordered
abbrev pub is_ordered : Table → Name → Bool
is_ordered t n = list_any (name_eq n) t.ordered

-- each function has a result type
abbrev pub all_typed : Table → Bool
all_typed t = list_all (λ s. is_some s.result) t.functions

-- the function takes this many arguments
abbrev pub takes_count : Signature → ℕ → Bool
takes_count s n = if s.is_variadic then nat_le (length s.parameters) n else (n == length s.parameters)

-- values of these types; further ones are of the last
abbrev pub are_of_types : List CoreType → List V → Bool
are_of_types [] vs = true
are_of_types (a ∷ as_) [] = true
are_of_types (a ∷ []) (v ∷ vs) = core_eq a (core_type_of v) && are_of_types (a ∷ []) vs
are_of_types (a ∷ b ∷ bs) (v ∷ vs) = core_eq a (core_type_of v) && are_of_types (b ∷ bs) vs

-- what a constructor makes: it is a function in function style, of one text, that isn't variadic and gives an extension value
abbrev pub constructs : CallStyle → List CoreType → Bool → Option CoreType → Option CoreType
constructs function_style (string_core ∷ []) false (Some (extension_core n)) = Some (extension_core n)
constructs style parameters is_variadic result = None

abbrev pub constructed : Signature → Option CoreType
constructed s = constructs s.style s.parameters s.is_variadic s.result

abbrev pub is_constructor : Signature → Bool
is_constructor s = is_some (constructed s)
