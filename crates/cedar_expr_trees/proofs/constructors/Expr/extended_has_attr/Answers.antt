use Rattle.std.proofs.lemmas.Grind.{common_steps}
use Rattle.std.proofs.Common.{arith}
use Rattle.cedar_expr_trees.proofs.constructors.Expr.extended_has_attr.Goals as goal

pub returns-then-is_empty-clause-tree : goal.returns-then-is_empty-clause-tree
returns-then-is_empty-clause-tree c = let h = c.if-is_empty.ensures in grind (arith, common_steps)

pub returns-clause-tree : goal.returns-clause-tree
returns-clause-tree c = let h = c.if-is_empty.ensures in grind (arith, common_steps)
