-- The bare tree of an expression that is told apart by its shape alone.
-- Rule: shapes (docs/RULES.md).
use Rattle.std.specs.Cow.{cow_value}
use Rattle.cedar_expr_model.specs.Tree.{Tree}
use Rattle.cedar_expr_trees.specs.Trees.{tree_of}
use Rattle.cedar_expr_shapes.specs.declared.shape.ExprShapeOnly.{ExprShapeOnly}

abbrev pub shape_of : {T : Type 0} → ExprShapeOnly T → Tree
shape_of s = tree_of (cow_value s.expr)
