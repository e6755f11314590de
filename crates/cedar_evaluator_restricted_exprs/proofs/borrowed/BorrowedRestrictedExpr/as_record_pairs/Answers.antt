use Rattle.std.proofs.Common.{◌≡◌, Some, sym, ap, ◌∙◌}
use Rattle.cedar_expr_model.specs.Builder.{tree_fields}
use Rattle.cedar_expr_model.specs.Tree.{record_literal}
use Rattle.cedar_expr_trees.specs.Trees.{tree_of, kind_tree, named, field_trees}
use Rattle.cedar_expr_trees.proofs.Trees.{record_tree}
use Rattle.cedar_evaluator_restricted_exprs.proofs.Reading.{of_record}
use Rattle.cedar_evaluator_restricted_exprs.proofs.borrowed.BorrowedRestrictedExpr.as_record_pairs.Goals as goal

pub returns-in-Record : goal.returns-in-Record
returns-in-Record c =
    let e : tree_of {T = Unit} c.args.self.now.expr.now ≡ record_literal (tree_fields (named (field_trees {T = Unit} c.in-Record.fields.value.entries))) = sym c.expr_kind.ensures.tree ∙ ap (kind_tree {T = Unit}) c.in-Record.is ∙ record_tree {T = Unit} c.in-Record.fields in
    let s : c.iter.result ≡ c.in-Record.fields.value.entries = c.iter.ensures.rest ∙ ap (λ m. m.entries) c.deref.ensures in
    ap Some (c.new.ensures ∙ ap (λ es. named (field_trees {T = Unit} es)) s) ∙ sym (of_record _ _ e)
