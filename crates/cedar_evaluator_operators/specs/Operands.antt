-- What is left of an operator of two operands where one is a residual.
-- Rule: partial evaluation (docs/RULES.md).
use Rattle.cedar_expr_model.specs.Made.{Made, written}
use Rattle.cedar_expr_model.specs.Tree.{BinaryOp, Tree}
use Rattle.cedar_evaluator_model.specs.Scope.{Left}
use Rattle.cedar_evaluator_model.specs.Steps.{kind_of_value, kind_of_unknown, with_residual}

-- a value and a residual
abbrev pub value_first : BinaryOp → Made → Tree → Left
value_first o m b = with_residual o (kind_of_value m) (kind_of_unknown b) (written m) b

-- a residual and a value
abbrev pub value_second : BinaryOp → Tree → Made → Left
value_second o a m = with_residual o (kind_of_unknown a) (kind_of_value m) a (written m)

-- two residuals
abbrev pub no_value : BinaryOp → Tree → Tree → Left
no_value o a b = with_residual o (kind_of_unknown a) (kind_of_unknown b) a b
