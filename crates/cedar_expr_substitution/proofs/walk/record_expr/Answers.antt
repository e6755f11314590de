use Rattle.std.proofs.Common.{ap, ◌∙◌}
use Rattle.cedar_expr_model.specs.Builder.{tree_fields}
use Rattle.cedar_expr_model.specs.Tree.{record_literal}
use Rattle.cedar_expr_trees.specs.Trees.{named, field_trees}
use Rattle.cedar_expr_substitution.proofs.walk.record_expr.Goals as goal

pub returns : goal.returns
returns c =
    c.record_arc.ensures.tree
    ∙ ap (λ m. record_literal (tree_fields (named (field_trees m.entries)))) c.in_ok-fields.ensures.ok
