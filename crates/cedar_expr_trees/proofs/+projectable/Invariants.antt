use Rattle.std.proofs.Common.{◌≡◌, ◌≤◌, true, take, length}
use denote.Param.Weighed.{most}
use Rattle.std.specs.BTreeMap.{values}
use Rattle.std.specs.List.{list_all}
use Rattle.cedar_expr_model.specs.Parts.{is_projectable}
use Rattle.cedar_expr_trees.specs.Trees.{tree_of}
use Rattle.cedar_expr_trees.specs.declared.expr.Expr.{size-Expr}
use Rattle.cedar_expr_trees.proofs.+projectable.Given as goal

abbrev pub invariant-contents::are_projectable-loop-e : goal.invariant-contents::are_projectable-loop-e
invariant-contents::are_projectable-loop-e g l = list_all (λ e. is_projectable (tree_of e)) (take l.e-index l.exprs) ≡ true

abbrev pub invariant-contents::have_projectable-loop-e : goal.invariant-contents::have_projectable-loop-e
invariant-contents::have_projectable-loop-e g l =
    (list_all (λ e. is_projectable (tree_of e)) (values l.fields) ≡ list_all (λ e. is_projectable (tree_of e)) l.left.left)
    × (most (size-Expr g.row.T.Denot) l.left.left ≤ most (size-Expr g.row.T.Denot) (values l.fields))

abbrev pub decreases-contents::have_projectable-loop-e : goal.decreases-contents::have_projectable-loop-e
decreases-contents::have_projectable-loop-e g l = length l.left.left
