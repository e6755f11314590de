use Rattle.std.proofs.Common.{◌≡◌, Some, map, sym, ap, ◌∙◌}
use Rattle.cedar_expr_model.specs.Builder.{trees}
use Rattle.cedar_expr_model.specs.Tree.{set_literal}
use Rattle.cedar_expr_trees.specs.Trees.{tree_of, kind_tree}
use Rattle.cedar_expr_trees.proofs.Trees.{set_tree}
use Rattle.cedar_evaluator_restricted_exprs.proofs.Reading.{of_set}
use Rattle.cedar_evaluator_restricted_exprs.proofs.borrowed.BorrowedRestrictedExpr.as_set_elements.Goals as goal

pub returns-in-Set : goal.returns-in-Set
returns-in-Set c =
    let e : tree_of {T = Unit} c.args.self.now.expr.now ≡ set_literal (trees (map (tree_of {T = Unit}) c.in-Set.members.value.items)) = sym c.expr_kind.ensures.tree ∙ ap (kind_tree {T = Unit}) c.in-Set.is ∙ set_tree {T = Unit} c.in-Set.members in
    let s : c.as_slice.result.now ≡ c.in-Set.members.value.items = c.as_slice.ensures.value ∙ ap (λ v. v.items) c.deref.ensures in
    ap Some (c.new.ensures ∙ ap (map (tree_of {T = Unit})) s) ∙ sym (of_set _ _ e)
