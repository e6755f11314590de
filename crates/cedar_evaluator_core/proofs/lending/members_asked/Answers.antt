use Rattle.std.proofs.Common.{map, sym, ap, ◌∙◌}
use Rattle.cedar_expr_model.specs.Builder.{trees}
use Rattle.cedar_expr_model.specs.Tree.{set_literal}
use Rattle.cedar_expr_trees.specs.Trees.{tree_of, kind_tree}
use Rattle.cedar_expr_trees.proofs.Trees.{set_tree}
use Rattle.cedar_evaluator_core.proofs.lending.members_asked.Goals as goal

pub returns-in-Contains-Set-clause-members : goal.returns-in-Contains-Set-clause-members
returns-in-Contains-Set-clause-members c =
    sym c.expr_kind.ensures.tree
    ∙ ap (kind_tree {T = Unit}) c.in-Contains-Set.is-1
    ∙ set_tree {T = Unit} c.in-Contains-Set.members
    ∙ ap (λ es. set_literal (trees (map (tree_of {T = Unit}) es))) (sym c.members_of.ensures)
