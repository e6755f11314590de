-- What operators are, as the model's.
-- Rule: expressions (docs/RULES.md).
use Rattle.cedar_expr_model.specs.Tree as model
use Rattle.cedar_expr_model.specs.Tree.{negation, minus, is_empty, equal, less, less_or_equal, plus, difference, times, remainder, is_in, contains, contains_all, contains_any, get_tag, has_tag}
use Rattle.cedar_expr_leaves.specs.declared.ops.UnaryOp.{UnaryOp}
use Rattle.cedar_expr_leaves.specs.declared.ops.UnaryOp.TheVariants.{Not, Neg, IsEmpty}
use Rattle.cedar_expr_leaves.specs.declared.ops.BinaryOp.{BinaryOp}
use Rattle.cedar_expr_leaves.specs.declared.ops.BinaryOp.TheVariants.{Eq, Less, LessEq, Add, Sub, Mul, Rem, In, Contains, ContainsAll, ContainsAny, GetTag, HasTag}

-- the operator of one operand that a code operator is
abbrev pub unary_op_of : UnaryOp → model.UnaryOp
unary_op_of Not = negation
unary_op_of Neg = minus
unary_op_of IsEmpty = is_empty

-- the operator of two operands
abbrev pub binary_op_of : BinaryOp → model.BinaryOp
binary_op_of Eq = equal
binary_op_of Less = less
binary_op_of LessEq = less_or_equal
binary_op_of Add = plus
binary_op_of Sub = difference
binary_op_of Mul = times
binary_op_of Rem = remainder
binary_op_of In = is_in
binary_op_of Contains = contains
binary_op_of ContainsAll = contains_all
binary_op_of ContainsAny = contains_any
binary_op_of GetTag = get_tag
binary_op_of HasTag = has_tag
