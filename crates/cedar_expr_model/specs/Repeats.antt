-- What is met again in a list, and which fault a list of functions has.
-- Rule: repeated names; extension functions (docs/RULES.md).
use Rattle.std.specs.Prelude.{List, [], ◌∷◌, ◌++◌, Bool, Option, Some, None, if◌then◌else◌, map, option_map}
use Rattle.std.specs.Option.{option_or}
use Rattle.std.specs.List.{list_any, filter_map}
use Rattle.std.specs.Str.{bytes_eq}
use Rattle.cedar_expr_model.specs.Name.{Text, Name, name_eq}
use Rattle.cedar_expr_model.specs.Tree.{CoreType}
use Rattle.cedar_expr_model.specs.Order.{core_eq}
use Rattle.cedar_expr_model.specs.Table.{Signature, constructed}

-- the first that is met again, where these were met before
abbrev pub first_again : {A : Type 0} → (A → A → Bool) → List A → List A → Option A
first_again eq before [] = None
first_again eq before (x ∷ xs) = if list_any (eq x) before then Some x else first_again eq (before ++ x ∷ []) xs

-- the first that is repeated, at its second place
abbrev pub repeated : {A : Type 0} → (A → A → Bool) → List A → Option A
repeated eq xs = first_again eq [] xs

-- the name that a list of pairs repeats first
abbrev pub repeated_name : {A : Type 0} → List (Text × A) → Option Text
repeated_name ps = repeated bytes_eq (map (λ p. p.0) ps)

-- Functions that can't be one table's.
pub data TableFault : Type 0 where
  repeated_function : Name → TableFault
  repeated_constructor : CoreType → TableFault

-- The fault of a list of functions: a name that is repeated, and then a type with two constructors.
abbrev pub table_fault : List Signature → Option TableFault
table_fault ss = option_or (option_map repeated_function (repeated name_eq (map (λ s. s.name) ss))) (option_map repeated_constructor (repeated core_eq (filter_map constructed ss)))
