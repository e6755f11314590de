-- The shape of a restricted expression.
-- Rule: expressions (docs/RULES.md).
use Rattle.cedar_expr_model.specs.Tree.{Tree}
use Rattle.cedar_expr_shapes.specs.Shapes.{shape_of}
use Rattle.cedar_evaluator_restricted_exprs.specs.declared.shape.RestrictedExprShapeOnly.{RestrictedExprShapeOnly}

abbrev pub restricted_shape : RestrictedExprShapeOnly → Tree
restricted_shape r = shape_of r.0
