use Rattle.std.proofs.Common.{◌≡◌, ◌≤◌, false, take, length}
use denote.Param.Weighed.{most}
use Rattle.std.specs.BTreeMap.{values}
use Rattle.std.specs.List.{list_any}
use Rattle.cedar_expr_model.specs.Unknowns.{has_unknown}
use Rattle.cedar_expr_trees.specs.Trees.{tree_of}
use Rattle.cedar_expr_trees.specs.declared.expr.Expr.{size-Expr}
use Rattle.cedar_expr_trees.proofs.+unknowns.Given as goal

abbrev pub invariant-contents::any_contains_unknown-loop-e : goal.invariant-contents::any_contains_unknown-loop-e
invariant-contents::any_contains_unknown-loop-e g l = list_any (λ e. has_unknown (tree_of e)) (take l.e-index l.exprs) ≡ false

abbrev pub invariant-contents::any_field_contains_unknown-loop-e : goal.invariant-contents::any_field_contains_unknown-loop-e
invariant-contents::any_field_contains_unknown-loop-e g l =
    (list_any (λ e. has_unknown (tree_of e)) (values l.fields) ≡ list_any (λ e. has_unknown (tree_of e)) l.left.left)
    × (most (size-Expr g.row.T.Denot) l.left.left ≤ most (size-Expr g.row.T.Denot) (values l.fields))

abbrev pub decreases-contents::any_field_contains_unknown-loop-e : goal.decreases-contents::any_field_contains_unknown-loop-e
decreases-contents::any_field_contains_unknown-loop-e g l = length l.left.left
