-- The core type that an expression shows by itself, and which calls a table takes.
-- Rule: the evident type; extension functions (docs/RULES.md).
use Rattle.std.specs.Prelude.{length, Bool, true, false, Option, Some, None, if◌then◌else◌, option_and_then}
use Rattle.std.specs.Option.{option_map_or}
use Rattle.std.specs.List.{list_all}
use Rattle.cedar_expr_model.specs.Value.{prim}
use Rattle.cedar_expr_model.specs.Order.{core_eq}
use Rattle.cedar_expr_model.specs.Tree.{CoreType, bool_core, long_core, set_core, record_core, UnaryOp, minus, BinaryOp, plus, difference, times, remainder, get_tag, Tree, lit, var, slot, unknown, choice, unary, binary, call, get_attr, set_literal, record_literal}
use Rattle.cedar_expr_model.specs.Parts.{subexpressions, listed}
use Rattle.cedar_expr_model.specs.Substitution.{core_type_of}
use Rattle.cedar_expr_model.specs.Table.{Table, signature_of, takes_count}

-- a negation and the test of emptiness are truth values, a minus is a whole number
abbrev pub unary_core : UnaryOp → CoreType
unary_core minus = long_core
unary_core o = bool_core

-- what a tag holds shows no type; arithmetic is a whole number, and each relation a truth value
abbrev pub binary_core : BinaryOp → Option CoreType
binary_core plus = Some long_core
binary_core difference = Some long_core
binary_core times = Some long_core
binary_core remainder = Some long_core
binary_core get_tag = None
binary_core o = Some bool_core

-- the type on which two agree
abbrev pub agreed : Option CoreType → Option CoreType → Option CoreType
agreed (Some a) (Some b) = if core_eq a b then Some a else None
agreed a b = None

-- The evident type: that of a literal, an operator, a set or a record; of a choice where both branches agree; of a call its
-- result; of an unknown its annotation. Variables, slots, attributes and tags show none. All else is a truth value.
abbrev pub evident_type : Table → Tree → Option CoreType
evident_type x (lit p) = Some (core_type_of (prim p))
evident_type x (unknown n a) = a
evident_type x (choice t a b) = agreed (evident_type x a) (evident_type x b)
evident_type x (unary o a) = Some (unary_core o)
evident_type x (binary o a b) = binary_core o
evident_type x (call f ts) = option_and_then (λ s. s.result) (signature_of x f)
evident_type x (set_literal ts) = Some set_core
evident_type x (record_literal fs) = Some record_core
evident_type x (var y) = None
evident_type x (slot s) = None
evident_type x (get_attr t a) = None
evident_type x t = Some bool_core

-- a call names a function of the table and has a right count of arguments
abbrev pub is_valid_call : Table → Tree → Bool
is_valid_call x (call f ts) = option_map_or (λ s. takes_count s (length (listed ts))) (signature_of x f) false
is_valid_call x t = true

-- each call in the expression does
abbrev pub has_valid_calls : Table → Tree → Bool
has_valid_calls x t = list_all (is_valid_call x) (subexpressions t)
