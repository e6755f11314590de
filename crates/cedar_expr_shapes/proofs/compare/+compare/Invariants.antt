use Rattle.std.proofs.Common.{◌≡◌, map, drop}
use Rattle.std.specs.Slice.Iter.{iter_rest}
use Rattle.cedar_expr_model.specs.Builder.{trees, tree_fields}
use Rattle.cedar_expr_model.specs.Shape.{trees_cmp, tree_fields_cmp}
use Rattle.cedar_expr_trees.specs.Trees.{tree_of, named, field_trees}
use Rattle.cedar_expr_shapes.proofs.compare.+compare.Given as goal

abbrev pub invariant-all_compared-loop-e : goal.invariant-all_compared-loop-e
invariant-all_compared-loop-e g l =
    trees_cmp (trees (map tree_of l.left)) (trees (map tree_of l.right)) ≡ trees_cmp (trees (map tree_of (drop l.e-index l.left))) (trees (map tree_of (iter_rest l.others)))

abbrev pub invariant-fields_compared-loop-name : goal.invariant-fields_compared-loop-name
invariant-fields_compared-loop-name g l =
    tree_fields_cmp (tree_fields (named (field_trees l.left.entries))) (tree_fields (named (field_trees l.right.entries))) ≡ tree_fields_cmp (tree_fields (named (field_trees l.name-iterator))) (tree_fields (named (field_trees l.others)))
