-- What is left to drop is smaller than the expression.
use Rattle.std.proofs.Common.{◌<◌}
use Rattle.cedar_expr_trees.proofs.expr.Expr.TheLaws.{the_size}
use Rattle.cedar_expr_trees.proofs.expr.ExprKind.TheLaws.{the_size as kind_size}
use Rattle.cedar_expr_trees.proofs.expr.Expr.+drop.Given as goal

abbrev pub invariant-loop-kind : goal.invariant-loop-kind
invariant-loop-kind g l = kind_size g.row.T g.T.laws l.kind < the_size g.row.T g.T.laws l.fn.self
