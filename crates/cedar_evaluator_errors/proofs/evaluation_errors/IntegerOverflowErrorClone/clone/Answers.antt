use Rattle.std.proofs.Common.{rules, ap, sym, ◌∙◌}
use Rattle.cedar_expr_values.specs.Extensions.{extension_of}
use Rattle.cedar_expr_leaves.specs.Operators.{binary_op_of, unary_op_of}
use Rattle.cedar_evaluator_errors.specs.Contents.{told_of_overflow, binary_overflow, unary_overflow}
use Rattle.cedar_evaluator_errors.proofs.evaluation_errors.IntegerOverflowErrorClone.clone.Goals as goal

-- src/evaluation_errors.rt:198:5
pub returns-in_ok-clone-in-BinaryOp : goal.returns-in_ok-clone-in-BinaryOp
returns-in_ok-clone-in-BinaryOp c = let k = c.in_ok-clone-in-BinaryOp.ensures.cases in record { cases = ((λ i. binary_overflow (ap binary_op_of k.0 i) (k.1.0.0 extension_of i) (k.1.1.0.0 extension_of i)) ∙ sym (ap told_of_overflow c.in-BinaryOp.is), search rules) }

-- src/evaluation_errors.rt:198:5
pub returns-in_ok-clone-in-UnaryOp : goal.returns-in_ok-clone-in-UnaryOp
returns-in_ok-clone-in-UnaryOp c = let k = c.in_ok-clone-in-UnaryOp.ensures.cases in record { cases = ((λ i. unary_overflow (ap unary_op_of k.0 i) (k.1.0.0 extension_of i)) ∙ sym (ap told_of_overflow c.in-UnaryOp.is), search rules) }
