-- Operators of two whole numbers, and the order of two values.
-- Rule: the meaning (docs/RULES.md).
use Rattle.std.specs.Prelude.{◌&&◌, ℤ, ◌+ℤ◌, ◌-ℤ◌, ◌*ℤ◌, Bool, true, false, List, [], Option, Some, None, Result, Ok, Err, if◌then◌else◌}
use Rattle.std.specs.List.{list_any}
use Rattle.std.specs.Ordering.{int_cmp, is_lt, is_le}
use Rattle.std.specs.declared.cmp.Ordering.{Ordering}
use Rattle.cedar_expr_model.specs.Name.{Name, name_eq}
use Rattle.cedar_expr_model.specs.Order.{text_cmp, value_eq}
use Rattle.cedar_expr_model.specs.Table.{Table, fails}
use Rattle.cedar_expr_model.specs.Tree.{BinaryOp, equal, less, less_or_equal, plus, difference, times, remainder, is_in, get_tag, has_tag}
use Rattle.cedar_expr_model.specs.Value.{V, prim, long, extension}
use Rattle.cedar_expr_values.specs.Extensions.{extension_of}
use Rattle.cedar_expr_values.specs.Values.{bare}
use Rattle.cedar_expr_values.specs.declared.value.Value.{Value}
use Rattle.cedar_expr_values.specs.declared.extension.ExtValue.{ExtValue}
use Rattle.cedar_store_model.specs.Operators.{in_range, remains, says, ordered, calculated}
use Rattle.cedar_store_model.specs.Outcome.{Res, val, err, overflow, zero_divisor, wrong_type}
use Rattle.cedar_evaluator_model.specs.Scope.{Left}
use Rattle.cedar_evaluator_model.specs.Steps.{left_of}
use Rattle.cedar_evaluator_operators.specs.declared.arithmetic.NoNumber.{NoNumber}
use Rattle.cedar_evaluator_operators.specs.declared.arithmetic.NoNumber.TheVariants.{Overflow, ZeroDivisor}

-- the operators of two whole numbers
abbrev pub is_arithmetic : BinaryOp → Bool
is_arithmetic plus = true
is_arithmetic difference = true
is_arithmetic times = true
is_arithmetic remainder = true
is_arithmetic o = false

-- what they give; of another operator nothing is said
abbrev pub at_numbers : BinaryOp → ℤ → ℤ → Res V
at_numbers plus m n = in_range (m +ℤ n)
at_numbers difference m n = in_range (m -ℤ n)
at_numbers remainder m n = remains m n
at_numbers o m n = in_range (m *ℤ n)

abbrev pub arithmetic : BinaryOp → V → V → Res V
arithmetic o v w = calculated (at_numbers o) v w

-- a whole number of 64 bits, or why there is none
abbrev pub number_result : Result ℤ NoNumber → Res V
number_result (Ok n) = val (prim (long n))
number_result (Err Overflow) = err overflow
number_result (Err ZeroDivisor) = err zero_divisor

-- the operators that compare
abbrev pub is_relation : BinaryOp → Bool
is_relation equal = true
is_relation less = true
is_relation less_or_equal = true
is_relation o = false

-- the operators that ask no store
abbrev pub asks_no_store : BinaryOp → Bool
asks_no_store is_in = false
asks_no_store get_tag = false
asks_no_store has_tag = false
asks_no_store o = true

-- a table of which is known which types it orders
abbrev pub table_ordering : List Name → Table
table_ordering names = record { functions = []; ordered = names; answers = λ f vs. fails f }

-- what they give; of another operator nothing is said
abbrev pub related : Table → BinaryOp → V → V → Res V
related x equal v w = says (value_eq v w)
related x less v w = ordered x is_lt v w
related x o v w = ordered x is_le v w

-- what a comparison of two values leaves, where values of these extension types have an order
abbrev pub relation_left : List Name → BinaryOp → Value ExtValue → Value ExtValue → Left
relation_left ns o v w = left_of (related (table_ordering ns) o (bare extension_of v) (bare extension_of w))

-- what the test of the order of two such values leaves
abbrev pub order_left : List Name → (Ordering → Bool) → Value ExtValue → Value ExtValue → Left
order_left ns test v w = left_of (ordered (table_ordering ns) test (bare extension_of v) (bare extension_of w))

-- an extension value
abbrev pub extension_value : ExtValue → V
extension_value x = extension (extension_of x).kind (extension_of x).key

-- the order of two whole numbers, or of two values of one of these extension types
abbrev pub order_of : List Name → V → V → Option Ordering
order_of ns (prim (long m)) (prim (long n)) = Some (int_cmp m n)
order_of ns (extension m j) (extension n k) = if name_eq m n && list_any (name_eq m) ns then Some (text_cmp j k) else None
order_of ns v w = None
