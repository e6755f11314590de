use Rattle.std.proofs.Common.{sym, ap, ◌∙◌}
use Rattle.cedar_expr_model.specs.Builder.{tree_fields}
use Rattle.cedar_expr_model.specs.Tree.{record_literal}
use Rattle.cedar_expr_trees.specs.Trees.{kind_tree, named, field_trees}
use Rattle.cedar_expr_trees.proofs.Trees.{record_tree}
use Rattle.cedar_evaluator_reads.proofs.seen.record_of.Goals as goal

pub returns-in-Record : goal.returns-in-Record
returns-in-Record c = sym c.expr_kind.ensures.tree ∙ ap (kind_tree {T = Unit}) c.in-Record.is ∙ record_tree {T = Unit} c.in-Record.fields ∙ ap (λ m. record_literal (tree_fields (named (field_trees {T = Unit} m.entries)))) (sym c.deref.ensures)
