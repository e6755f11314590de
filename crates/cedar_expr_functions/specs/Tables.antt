-- What a table of extension functions is in the model, and how it answers.
-- Rule: extension functions (docs/RULES.md).
use Rattle.std.specs.Prelude.{◌≡◌, Bool, List, [], ◌∷◌, Option, map, All, Contains, is_some}
use Rattle.std.specs.List.{filter_map, list_all}
use Rattle.std.specs.Borrow.{Bor}
use Rattle.std.specs.Slice.Iter.{iter_rest}
use Rattle.cedar_expr_model.specs.Name.{Name}
use Rattle.cedar_expr_model.specs.Value.{V}
use Rattle.cedar_expr_model.specs.Table.{Signature, Called, Table}
use Rattle.cedar_expr_names.specs.Views.{plain_name_of}
use Rattle.cedar_expr_functions.specs.Signatures.{given_type}
use Rattle.cedar_expr_functions.specs.Functions.{function_name, function_signature, IsAnsweredBy}
use Rattle.cedar_expr_functions.specs.Named.{all_functions}
use Rattle.cedar_expr_functions.specs.declared.extension.ExtensionFunction.{ExtensionFunction}
use Rattle.cedar_expr_functions.specs.declared.extension.Extension.{Extension}
use Rattle.cedar_expr_functions.specs.declared.extensions.Extensions.{Extensions}
use Rattle.cedar_expr_functions.specs.declared.extensions.TableTypes.{TableTypes}

-- the extensions' names
abbrev pub names_of : {B : _} {F : _} {g : _} → Extensions B F g → List Name
names_of t = map (λ n. plain_name_of n.now) t.names.items

-- the signatures of the functions, in the order of their names
abbrev pub functions_of : {B : _} {F : _} {g : _} → Extensions B F g → List Signature
functions_of t = map (λ f. function_signature f.now) t.functions.items

-- each function has a result type
abbrev pub are_typed : {B : _} {F : _} {g : _} → Extensions B F g → Bool
are_typed t = list_all (λ s. is_some s.result) (functions_of t)

-- the types whose values are ordered
abbrev pub ordered_of : {B : _} {F : _} {g : _} → Extensions B F g → List Name
ordered_of t = map (λ n. plain_name_of n.now) t.ordered.items

-- The table of the model whose functions answer so.
abbrev pub table_of : {B : _} {F : _} {g : _} → Extensions B F g → (Name → List V → Called) → Table
table_of t answers = record { functions = functions_of t; ordered = ordered_of t; answers = answers }

-- Each function of the table answers so.
pub record AnswersAs {B : _} {F : _} {g : _} (t : Extensions B F g) (answers : Name → List V → Called) : Type 0 where
  pub each : All (λ f. IsAnsweredBy f.now (answers (function_name f.now))) t.functions.items

-- A function that the table has under this name answers as each table of the model does by which this one is answered.
pub record AnswersInTable {B : _} {F : _} {g : _} (t : Extensions B F g) (n : Name) (f : ExtensionFunction B F g) : Type 0 where
  pub answered : (answers : Name → List V → Called) → AnswersAs t answers → IsAnsweredBy f (answers n)

-- the functions of the table, in the order of their names
abbrev pub stored_in : {B : _} {F : _} {g : _} → Extensions B F g → List (ExtensionFunction B F g)
stored_in t = map (λ f. f.now) t.functions.items

-- The function is one of the table's, and has this name.
pub record IsNamedIn {B : _} {F : _} {g : _} (t : Extensions B F g) (n : Name) (f : ExtensionFunction B F g) : Type 0 where
  pub among : Contains (stored_in t) f
  pub named : function_name f ≡ n

-- The table answers as its extensions' functions do.
pub record AnswersAsExtensions {B : _} {F : _} {g : _} (es : List (Extension B F g)) (t : Extensions B F g) : Type 0 where
  pub answered : (answers : Name → List V → Called) → All (λ f. IsAnsweredBy f (answers (function_name f))) (all_functions es) → AnswersAs t answers

-- what is left to the iterator over the types that the table's functions give
abbrev pub table_types_left : {B : _} {F : _} {g : _} → TableTypes B F g → List Name
table_types_left i = filter_map (λ f. given_type (function_signature f.now)) (iter_rest i.functions)
