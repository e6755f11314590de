-- The values of the worked examples for every kind.
-- Rule: values and equality; expressions; substitution; extension functions (docs/RULES.md).
use Rattle.std.specs.Prelude.{ℕ, pos, List, [], ◌∷◌, Bool, true, false, Some, None, codes, if◌then◌else◌, ◌||◌}
use Rattle.std.specs.Str.{bytes_eq}
use Rattle.cedar_expr_model.specs.Name.{Text, Name, name_eq}
use Rattle.cedar_expr_model.specs.Uid.{Uid}
use Rattle.cedar_expr_model.specs.Value.{truth, long, text, V, prim, extension, Vs, no_values, value, Fields, no_fields, field}
use Rattle.cedar_expr_model.specs.Pattern.{Pattern, character, wildcard}
use Rattle.cedar_expr_model.specs.Tree.{principal, CoreType, bool_core, long_core, string_core, extension_core, negation, Tree, lit, var, unknown, unary, call, record_literal, no_trees, tree, no_tree_fields, tree_field}
use Rattle.cedar_expr_model.specs.Made.{Made, made_prim, made_extension}
use Rattle.cedar_expr_model.specs.Builder.{Builder}
use Rattle.cedar_expr_model.specs.Canonical.{set_made}
use Rattle.cedar_expr_model.specs.Substitution.{Bindings, Mismatch}
use Rattle.cedar_expr_model.specs.Parts.{Unknown}
use Rattle.cedar_expr_model.specs.Table.{function_style, method_style, Signature, Called, gives, fails, Table}

-- names: `User`, `rank`, `label`, `a::b`, and two that no text should hold: the one part `a::b`, and the parts `a:` and `:b`
abbrev pub plain : Text → Name
plain base = record { path = []; base = base }

abbrev pub user : Name
user = plain (codes "User")

abbrev pub doc : Name
doc = plain (codes "Doc")

abbrev pub rank_name : Name
rank_name = plain (codes "rank")

abbrev pub label_name : Name
label_name = plain (codes "label")

abbrev pub join_name : Name
join_name = plain (codes "join")

abbrev pub unknown_name : Name
unknown_name = plain (codes "unknown")

abbrev pub deep_name : Name
deep_name = record { path = codes "a" ∷ []; base = codes "b" }

abbrev pub false_name : Name
false_name = plain (codes "a::b")

-- uids `User::"a"` and `User::"b"`
abbrev pub alice : Uid
alice = record { kind = user; id = codes "a" }

abbrev pub bob : Uid
bob = record { kind = user; id = codes "b" }

-- values
abbrev pub number : ℕ → V
number n = prim (long (pos n))

abbrev pub word : Text → V
word s = prim (text s)

abbrev pub flag : Bool → V
flag b = prim (truth b)

-- the set of 1 and 2, the same written in another order, and a list that does not rise
abbrev pub one_two : V
one_two = set_made (number 1 ∷ number 2 ∷ [])

abbrev pub two_one_one : V
two_one_one = set_made (number 2 ∷ number 1 ∷ number 1 ∷ [])

abbrev pub falling : Vs
falling = value (number 2) (value (number 1) no_values)

abbrev pub rising : Vs
rising = value (number 1) (value (number 2) no_values)

-- the records `{a: 1, b: 2}` and, in a wrong order, `{b: 2, a: 1}`
abbrev pub a_then_b : Fields
a_then_b = field (codes "a") (number 1) (field (codes "b") (number 2) no_fields)

abbrev pub b_then_a : Fields
b_then_a = field (codes "b") (number 2) (field (codes "a") (number 1) no_fields)

-- the pattern `f`, any, any, `r`, and the pattern `f`, any
abbrev pub f_to_r : Pattern
f_to_r = character 102 ∷ wildcard ∷ wildcard ∷ character 114 ∷ []

abbrev pub f_and_more : Pattern
f_and_more = character 102 ∷ wildcard ∷ []

-- expressions
abbrev pub truth_lit : Bool → Tree
truth_lit b = lit (truth b)

abbrev pub number_lit : ℕ → Tree
number_lit n = lit (long (pos n))

abbrev pub named : Text → Tree
named n = unknown n None

abbrev pub named_as : Text → CoreType → Tree
named_as n a = unknown n (Some a)

-- `{a: unknown x (bool), b: unknown y (bool)}`
abbrev pub two_unknowns : Tree
two_unknowns = record_literal (tree_field (codes "a") (named_as (codes "x") bool_core) (tree_field (codes "b") (named_as (codes "y") bool_core) no_tree_fields))

-- `{a: 1, b: principal, c: !true}`
abbrev pub unrestricted : Tree
unrestricted = record_literal (tree_field (codes "a") (number_lit 1) (tree_field (codes "b") (var principal) (tree_field (codes "c") (unary negation (truth_lit true)) no_tree_fields)))

-- `{a: 1, b: principal}`
abbrev pub with_principal : Tree
with_principal = record_literal (tree_field (codes "a") (number_lit 1) (tree_field (codes "b") (var principal) no_tree_fields))

-- the calls `rank("7")`, `rank("7", "8")` and `lost("7")`
abbrev pub rank_of : Text → Tree
rank_of s = call rank_name (tree (lit (text s)) no_trees)

abbrev pub rank_of_two : Tree
rank_of_two = call rank_name (tree (lit (text (codes "7"))) (tree (lit (text (codes "8"))) no_trees))

abbrev pub lost_call : Tree
lost_call = call (plain (codes "lost")) (tree (lit (text (codes "7"))) no_trees)

-- values as they were made: a number, a truth value, and a rank with the call that makes it
abbrev pub made_number : ℕ → Made
made_number n = made_prim (long (pos n))

abbrev pub made_truth : Bool → Made
made_truth b = made_prim (truth b)

abbrev pub made_rank : Made
made_rank = made_extension rank_name (0 ∷ 7 ∷ []) rank_name (text (codes "7") ∷ [])

-- bindings of x alone, and of x and y
abbrev pub only_x : Made → Bindings
only_x m n = if bytes_eq n (codes "x") then Some m else None

abbrev pub x_and_y : Made → Made → Bindings
x_and_y m k n = if bytes_eq n (codes "x") then Some m else (if bytes_eq n (codes "y") then Some k else None)

abbrev pub nothing_bound : Bindings
nothing_bound n = None

-- the mismatch at a name, of a truth value with a whole number
abbrev pub number_for_truth : Text → Mismatch
number_for_truth n = record { name = n; annotation = bool_core; actual = long_core }

abbrev pub unknown_as : Text → CoreType → Unknown
unknown_as n a = record { name = n; annotation = Some a }

-- A table: `rank(string)`, a constructor; the method `label(rank)`; `join(string, string, ..)`; and one without result type.
abbrev pub rank_function : Signature
rank_function = record { name = rank_name; style = function_style; parameters = string_core ∷ []; is_variadic = false; result = Some (extension_core rank_name) }

abbrev pub label_function : Signature
label_function = record { name = label_name; style = method_style; parameters = extension_core rank_name ∷ []; is_variadic = false; result = Some string_core }

abbrev pub join_function : Signature
join_function = record { name = join_name; style = function_style; parameters = string_core ∷ long_core ∷ []; is_variadic = true; result = Some string_core }

abbrev pub unknown_function : Signature
unknown_function = record { name = unknown_name; style = function_style; parameters = string_core ∷ []; is_variadic = false; result = None }

-- another constructor of ranks, and another function named `label`
abbrev pub other_rank_function : Signature
other_rank_function = record rank_function { name = plain (codes "grade") }

abbrev pub other_label_function : Signature
other_label_function = record join_function { name = label_name }

-- what its functions answer: a rank of the text itself as its key, the key of a rank, and otherwise a failure
abbrev pub rank_answer : List V → Called
rank_answer (prim (text s) ∷ []) = gives (extension rank_name s)
rank_answer vs = fails rank_name

abbrev pub label_answer : List V → Called
label_answer (extension n k ∷ []) = gives (word k)
label_answer vs = fails rank_name

abbrev pub worked_answers : Name → List V → Called
worked_answers f vs = if name_eq f rank_name then rank_answer vs else (if name_eq f label_name then label_answer vs else fails rank_name)

abbrev pub worked_table : Table
worked_table = record { functions = rank_function ∷ label_function ∷ join_function ∷ unknown_function ∷ []; ordered = rank_name ∷ []; answers = worked_answers }

abbrev pub typed_table : Table
typed_table = record worked_table { functions = rank_function ∷ label_function ∷ [] }

-- a table whose constructor of ranks gives a number
abbrev pub unfair_table : Table
unfair_table = record typed_table { answers = λ f vs. gives (number 1) }

-- a builder into truth values: whether a variable stands in the expression
abbrev pub some_of : List Bool → Bool
some_of [] = false
some_of (b ∷ bs) = b || some_of bs

abbrev pub some_of_fields : List (Text × Bool) → Bool
some_of_fields [] = false
some_of_fields (f ∷ fs) = f.1 || some_of_fields fs

abbrev pub variable_builder : Builder Bool
variable_builder = record {
  of_lit = λ p. false;
  of_var = λ x. true;
  of_slot = λ s. false;
  of_unknown = λ n a. true;
  of_choice = λ t a b. t || (a || b);
  of_both = λ a b. a || b;
  of_either = λ a b. a || b;
  of_unary = λ o a. a;
  of_binary = λ o a b. a || b;
  of_call = λ f ts. some_of ts;
  of_get = λ t a. t;
  of_has = λ t a. t;
  of_path = λ t a bs. t;
  of_like = λ t p. t;
  of_is = λ t n. t;
  of_set = λ ts. some_of ts;
  of_record = λ fs. some_of_fields fs;
}

-- a rank as the worked table makes it, and one that it makes otherwise
abbrev pub true_rank : Made
true_rank = made_extension rank_name (codes "7") rank_name (text (codes "7") ∷ [])

abbrev pub feigned_rank : Made
feigned_rank = made_extension rank_name (codes "8") rank_name (text (codes "7") ∷ [])
