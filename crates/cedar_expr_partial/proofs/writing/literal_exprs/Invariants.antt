use Rattle.std.proofs.Common.{◌≡◌, map, take}
use Rattle.cedar_expr_model.specs.Tree.{lit}
use Rattle.cedar_expr_leaves.specs.Literals.{literal_of}
use Rattle.cedar_expr_trees.specs.Trees.{tree_of}
use Rattle.cedar_expr_partial.proofs.writing.literal_exprs.Given as goal

abbrev pub invariant-loop-literal : goal.invariant-loop-literal
invariant-loop-literal l = map tree_of l.exprs.items ≡ map lit (map literal_of (take l.literal-index l.literals))
