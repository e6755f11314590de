use Rattle.std.proofs.Common.{◌≡◌, ◌≤◌, fold, drop, length}
use denote.Param.Weighed.{most}
use Rattle.std.specs.Map.{values_of}
use Rattle.cedar_expr_trees.specs.declared.expr.Expr.{size-Expr}
use Rattle.cedar_expr_shapes.proofs.Feeding.{all_fed, fields_fed}
use Rattle.cedar_expr_shapes.proofs.hashed.+feed.Given as goal

abbrev pub invariant-feed_all-loop-e : goal.invariant-feed_all-loop-e
invariant-feed_all-loop-e g l = fold g.H.Hasher.write l.state (all_fed g.H.Hasher.write (drop l.e-index l.exprs)) ≡ fold g.H.Hasher.write l.initial.state (all_fed g.H.Hasher.write l.exprs)

abbrev pub invariant-feed_fields-loop-name : goal.invariant-feed_fields-loop-name
invariant-feed_fields-loop-name g l =
    record {
      fed : fold g.H.Hasher.write l.state (fields_fed g.H.Hasher.write l.left.left) ≡ fold g.H.Hasher.write l.initial.state (fields_fed g.H.Hasher.write l.fields.entries);
      within : most (size-Expr g.row.T.Denot) (values_of l.left.left) ≤ most (size-Expr g.row.T.Denot) (values_of l.fields.entries);
    }

abbrev pub decreases-feed_fields-loop-name : goal.decreases-feed_fields-loop-name
decreases-feed_fields-loop-name g l = length l.left.left
