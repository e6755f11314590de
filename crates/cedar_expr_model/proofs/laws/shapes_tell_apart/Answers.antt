use Rattle.cedar_expr_model.proofs.ShapeOrder.{tree_linear, trees_decide}
use Rattle.cedar_expr_model.proofs.laws.shapes_tell_apart.Goals as goal

pub returns-clause-order : goal.returns-clause-order
returns-clause-order c = tree_linear

pub returns-clause-equality : goal.returns-clause-equality
returns-clause-equality c = trees_decide
