use Rattle.std.proofs.Common.{sym, ap, ◌∙◌}
use Rattle.cedar_expr_trees.specs.Positions.{below}
use Rattle.cedar_expr_trees.specs.Trees.{kind_tree}
use Rattle.cedar_expr_trees.proofs.Trees.{same_call, same_below}
use Rattle.cedar_expr_trees.proofs.expr.ExprKindClone.clone.Goals as goal

pub returns-in_ok-clone-in-ExtensionFunctionApp-2 : goal.returns-in_ok-clone-in-ExtensionFunctionApp-2
returns-in_ok-clone-in-ExtensionFunctionApp-2 g c =
    let name = c.in_ok-clone-in-ExtensionFunctionApp in
    let args = c.in_ok-clone-in-ExtensionFunctionApp-2 in
    let old = c.in-ExtensionFunctionApp in
    record {
      cases = (
        same_call {T = g.row.T.Denot} name.field-0 old.fn_name args.field-0 old.args name.ensures.cases.0 args.ensures.cases ∙ ap (kind_tree {T = g.row.T.Denot}) (sym old.is),
        same_below {T = g.row.T.Denot} name.field-0 old.fn_name args.field-0 old.args args.ensures.cases ∙ ap (below {T = g.row.T.Denot}) (sym old.is),
      );
    }
