use Rattle.std.proofs.Common.{◌≡◌, ◌++◌, map, drop}
use Rattle.cedar_expr_model.specs.Builder.{built_list, built_fields, trees, tree_fields}
use Rattle.cedar_expr_trees.specs.Trees.{tree_of, named, field_trees}
use Rattle.cedar_expr_substitution.specs.Replacing.{replacing}
use Rattle.cedar_expr_substitution.proofs.walk.+walk.Given as goal

abbrev pub invariant-all_replaced-loop-e : goal.invariant-all_replaced-loop-e
invariant-all_replaced-loop-e g l =
    let b = replacing (g.R.Replace.placed l.by) (g.R.Replace.slotted l.by) in
    map tree_of l.made.items ++ built_list b (trees (map tree_of (drop l.e-index l.exprs))) ≡ built_list b (trees (map tree_of l.exprs))

abbrev pub invariant-fields_replaced-loop-name : goal.invariant-fields_replaced-loop-name
invariant-fields_replaced-loop-name g l =
    let b = replacing (g.R.Replace.placed l.by) (g.R.Replace.slotted l.by) in
    named (field_trees l.made.items) ++ built_fields b (tree_fields (named (field_trees l.name-iterator))) ≡ built_fields b (tree_fields (named (field_trees l.fields.entries)))
