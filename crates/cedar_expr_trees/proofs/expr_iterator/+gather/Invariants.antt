use Rattle.std.proofs.Common.{◌≡◌, ◌≤◌, ◌++◌, map, take, length}
use denote.Param.Weighed.{most}
use Rattle.std.specs.BTreeMap.{values}
use Rattle.std.specs.List.{flat_map}
use Rattle.cedar_expr_trees.specs.Positions.{positions}
use Rattle.cedar_expr_trees.specs.declared.expr.Expr.{size-Expr}
use Rattle.cedar_expr_trees.proofs.expr_iterator.+gather.Given as goal

abbrev pub invariant-gather_all-loop-e : goal.invariant-gather_all-loop-e
invariant-gather_all-loop-e g l = map (λ e. e.now) l.found.items ≡ map (λ e. e.now) l.initial.found.items ++ flat_map positions (take l.e-index l.exprs)

abbrev pub invariant-gather_fields-loop-e : goal.invariant-gather_fields-loop-e
invariant-gather_fields-loop-e g l =
    (map (λ e. e.now) l.initial.found.items ++ flat_map positions (values l.fields) ≡ map (λ e. e.now) l.found.items ++ flat_map positions l.left.left)
    × (most (size-Expr g.row.T.Denot) l.left.left ≤ most (size-Expr g.row.T.Denot) (values l.fields))

abbrev pub decreases-gather_fields-loop-e : goal.decreases-gather_fields-loop-e
decreases-gather_fields-loop-e g l = length l.left.left
