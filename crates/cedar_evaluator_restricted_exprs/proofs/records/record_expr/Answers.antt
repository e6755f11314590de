use Rattle.std.proofs.Common.{ap, sym, ◌∙◌}
use Rattle.cedar_expr_model.specs.Builder.{tree_fields}
use Rattle.cedar_expr_model.specs.Tree.{record_literal}
use Rattle.cedar_expr_trees.specs.Trees.{named, field_trees}
use Rattle.cedar_evaluator_model.specs.Scope.{residual}
use Rattle.cedar_evaluator_restricted_exprs.specs.Lefts.{names_in}
use Rattle.cedar_evaluator_restricted_exprs.proofs.Named.{record_tree_is}
use Rattle.cedar_evaluator_restricted_exprs.proofs.records.record_expr.Goals as goal

pub returns : goal.returns
returns c =
    ap residual
    (ap (λ ps. record_literal (tree_fields ps)) (record_tree_is (names_in c.args.fields.now.entries) c.args.exprs.items c.in_ok-pairs.pairs.items c.in_ok-fields.fields.entries c.in_ok-pairs.ensures.pairs c.in_ok-pairs.ensures.rising c.in_ok-fields.ensures)
    ∙ ap (λ m. record_literal (tree_fields (named (field_trees {T = Unit} m.entries)))) (sym c.in_ok-fields-2.ensures.ok)
    ∙ sym c.record_arc.ensures.tree)
