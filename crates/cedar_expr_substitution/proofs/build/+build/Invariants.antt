use Rattle.std.proofs.Common.{◌≡◌, ◌+◌, ◌*◌, max, map, drop}
use Rattle.cedar_expr_model.specs.Builder.{built_list, built_fields, trees, tree_fields}
use Rattle.cedar_expr_trees.specs.Trees.{tree_of, named, field_trees}
use Rattle.cedar_expr_trees.proofs.expr.Expr.TheLaws.{the_size}
use Rattle.cedar_expr_builders.specs.Refusing.{all_made, fields_made}
use Rattle.cedar_expr_builders.specs.Views.{meant}
use Rattle.cedar_expr_substitution.specs.Outcome.{placing}
use Rattle.cedar_expr_substitution.proofs.Gathered.{after}
use Rattle.cedar_expr_substitution.proofs.build.+build.Given as goal

abbrev pub invariant-build_all-loop-e : goal.invariant-build_all-loop-e
invariant-build_all-loop-e g l =
    let b = placing g.B.ExprBuilder.steps g.B.ExprBuilder.refuses (g.U.BuildUnknown.placed l.unknowns) in
    all_made (built_list b (trees (map tree_of l.exprs)))
    ≡ after (map g.B.ExprBuilder.means l.made.items) (all_made (built_list b (trees (map tree_of (drop l.e-index l.exprs)))))

abbrev pub invariant-build_fields-loop-name : goal.invariant-build_fields-loop-name
invariant-build_fields-loop-name g l =
    let b = placing g.B.ExprBuilder.steps g.B.ExprBuilder.refuses (g.U.BuildUnknown.placed l.unknowns) in
    fields_made (built_fields b (tree_fields (named (field_trees l.fields.entries))))
    ≡ after (named (meant g.B.ExprBuilder.means l.made.items)) (fields_made (built_fields b (tree_fields (named (field_trees l.name-iterator)))))

abbrev pub decreases-build_with : goal.decreases-build_with
decreases-build_with g l = 3 * the_size g.row.T g.T.laws l.e.now + 0

abbrev pub decreases-build_two : goal.decreases-build_two
decreases-build_two g l = 3 * max (the_size g.row.T g.T.laws l.left.now) (the_size g.row.T g.T.laws l.right.now) + 1

abbrev pub decreases-build_three : goal.decreases-build_three
decreases-build_three g l = 3 * max (max (the_size g.row.T g.T.laws l.test_expr.now) (the_size g.row.T g.T.laws l.then_expr.now)) (the_size g.row.T g.T.laws l.else_expr.now) + 2

abbrev pub decreases-build_all : goal.decreases-build_all
decreases-build_all g l = 3 * goal.size-build_all g l + 1

abbrev pub decreases-build_fields : goal.decreases-build_fields
decreases-build_fields g l = 3 * goal.size-build_fields g l + 1
