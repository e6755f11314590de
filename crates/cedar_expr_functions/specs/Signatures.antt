-- Signatures from their parts, which arguments they take, and which argument is of a wrong type.
-- Rule: extension functions (docs/RULES.md).
use Rattle.std.specs.Prelude.{◌&&◌, List, [], ◌∷◌, length, Bool, true, false, Option, Some, None, if◌then◌else◌, map, option_and_then}
use Rattle.cedar_expr_model.specs.Name.{Name}
use Rattle.cedar_expr_model.specs.Value.{V}
use Rattle.cedar_expr_model.specs.Tree.{CoreType, string_core, extension_core}
use Rattle.cedar_expr_model.specs.Order.{core_eq}
use Rattle.cedar_expr_model.specs.Substitution.{core_type_of}
use Rattle.cedar_expr_model.specs.Table.{CallStyle, Signature, takes_count, are_of_types}
use Rattle.cedar_expr_values.specs.Types.{core_of}
use Rattle.cedar_expr_values.specs.Values.{bare}
use Rattle.cedar_expr_values.specs.declared.types.Type.{«Type» as CoreKind}
use Rattle.cedar_expr_values.specs.Extensions.{extension_of}
use Rattle.cedar_expr_values.specs.declared.value.Value.{Value}
use Rattle.cedar_expr_values.specs.declared.extension.ExtValue.{ExtValue}

-- the function of this name, written so, of these types and this result
abbrev pub signature : Name → CallStyle → List CoreType → Bool → Option CoreType → Signature
signature n w ps v r = record { name = n; style = w; parameters = ps; is_variadic = v; result = r }

-- the function takes these arguments: as many, and of its types
abbrev pub takes : Signature → List V → Bool
takes s vs = takes_count s (length vs) && are_of_types s.parameters vs

-- the types of the arguments after one of these types: the last stays
abbrev pub after_one : List CoreType → List CoreType
after_one (a ∷ b ∷ bs) = b ∷ bs
after_one as_ = as_

-- The first of these arguments that isn't of its type: the type that is due, and the type that it has.
abbrev pub first_mistyped : List CoreType → List V → Option (CoreType × CoreType)
first_mistyped [] vs = None
first_mistyped (a ∷ as_) [] = None
first_mistyped (a ∷ as_) (v ∷ vs) = if core_eq a (core_type_of v) then first_mistyped (after_one (a ∷ as_)) vs else Some (a, core_type_of v)

-- what the code's values are
abbrev pub bare_values : List (Value ExtValue) → List V
bare_values vs = map (bare extension_of) vs

-- two types, as the model's
abbrev pub core_pair : CoreKind × CoreKind → CoreType × CoreType
core_pair p = (core_of p.0, core_of p.1)

-- one type, of texts
abbrev pub is_text : CoreType → Bool
is_text string_core = true
is_text t = false

abbrev pub is_one_text : List CoreType → Bool
is_one_text (a ∷ []) = is_text a
is_one_text as_ = false

-- a type of extension values
abbrev pub extension_type : CoreType → Option CoreType
extension_type (extension_core n) = Some (extension_core n)
extension_type t = None

-- the name of an extension type
abbrev pub extension_name : CoreType → Option Name
extension_name (extension_core n) = Some n
extension_name t = None

-- the extension type whose values a function gives, where its result is one
abbrev pub given_type : Signature → Option Name
given_type s = option_and_then extension_name s.result
