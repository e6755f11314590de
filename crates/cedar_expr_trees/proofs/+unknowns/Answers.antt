use Rattle.std.proofs.lemmas.Grind.{common_steps}
use Rattle.std.proofs.Common.{sym, ap, ◌∙◌, rules, arith}
use Rattle.std.specs.List.{list_any}
use Rattle.cedar_expr_model.specs.Unknowns.{has_unknown}
use Rattle.cedar_expr_trees.specs.Trees.{kind_tree, tree_of}
use Rattle.cedar_expr_trees.proofs.Sizes.{arguments_are_smaller}
use Rattle.cedar_expr_trees.proofs.ByParts.{call_has_unknown}
use Rattle.cedar_expr_trees.proofs.+unknowns.Goals as goal

pub expr::Expr::contains_unknown-any_contains_unknown-requires : goal.expr::Expr::contains_unknown-any_contains_unknown-requires
expr::Expr::contains_unknown-any_contains_unknown-requires g t c κs within =
    let call = c.in-ExtensionFunctionApp in
    let smaller = arguments_are_smaller {T = g.row.T.Denot} c.args.self.now call.fn_name call.args c.as_slice.result.now call.is (c.as_slice.ensures.value ∙ ap (λ v. v.items) c.deref-in-ExtensionFunctionApp.ensures) in
    (omega (arith, smaller), search rules)

pub expr::Expr::contains_unknown-returns-in-ExtensionFunctionApp : goal.expr::Expr::contains_unknown-returns-in-ExtensionFunctionApp
expr::Expr::contains_unknown-returns-in-ExtensionFunctionApp g t c =
    let call = c.in-ExtensionFunctionApp in
    c.any_contains_unknown.ensures
    ∙ ap (λ es. list_any (λ e. has_unknown (tree_of {T = g.row.T.Denot} e)) es) (c.as_slice.ensures.value ∙ ap (λ v. v.items) c.deref-in-ExtensionFunctionApp.ensures)
    ∙ sym (call_has_unknown {T = g.row.T.Denot} call.fn_name call.args)
    ∙ ap (λ k. has_unknown (kind_tree {T = g.row.T.Denot} k)) (sym call.is)

pub contents::any_contains_unknown-returns-then-contains_unknown : goal.contents::any_contains_unknown-returns-then-contains_unknown
contents::any_contains_unknown-returns-then-contains_unknown g t c = let h = c.if-contains_unknown.ensures in grind (arith, common_steps)

pub contents::any_contains_unknown-loop-e-preserved : goal.contents::any_contains_unknown-loop-e-preserved
contents::any_contains_unknown-loop-e-preserved g t c = let h = c.if-contains_unknown.ensures in grind (arith, common_steps)

pub contents::any_contains_unknown-returns : goal.contents::any_contains_unknown-returns
contents::any_contains_unknown-returns g t c = grind (arith, common_steps)

pub expr::Expr::contains_unknown-returns-then-contains_unknown-2 : goal.expr::Expr::contains_unknown-returns-then-contains_unknown-2
expr::Expr::contains_unknown-returns-then-contains_unknown-2 g t c = grind (arith, common_steps)

pub expr::Expr::contains_unknown-returns-else-contains_unknown-2 : goal.expr::Expr::contains_unknown-returns-else-contains_unknown-2
expr::Expr::contains_unknown-returns-else-contains_unknown-2 g t c = grind (arith, common_steps)

pub expr::Expr::contains_unknown-returns-then-contains_unknown-3 : goal.expr::Expr::contains_unknown-returns-then-contains_unknown-3
expr::Expr::contains_unknown-returns-then-contains_unknown-3 g t c = let h = c.if-contains_unknown-3.ensures in grind (arith, common_steps)

pub expr::Expr::contains_unknown-returns-else-contains_unknown-3 : goal.expr::Expr::contains_unknown-returns-else-contains_unknown-3
expr::Expr::contains_unknown-returns-else-contains_unknown-3 g t c = let h = c.if-contains_unknown-3.ensures in grind (arith, common_steps)

pub expr::Expr::contains_unknown-returns-then-contains_unknown-4 : goal.expr::Expr::contains_unknown-returns-then-contains_unknown-4
expr::Expr::contains_unknown-returns-then-contains_unknown-4 g t c = let h = c.if-contains_unknown-4.ensures in grind (arith, common_steps)

pub expr::Expr::contains_unknown-returns-else-contains_unknown-4 : goal.expr::Expr::contains_unknown-returns-else-contains_unknown-4
expr::Expr::contains_unknown-returns-else-contains_unknown-4 g t c = let h = c.if-contains_unknown-4.ensures in grind (arith, common_steps)
