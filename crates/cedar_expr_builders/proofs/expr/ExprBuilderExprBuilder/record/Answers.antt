use Rattle.std.proofs.Common.{sym, ap, flat_map, ◌∙◌}
use Rattle.std.specs.Map.{values_of}
use Rattle.cedar_expr_model.specs.Builder.{tree_fields}
use Rattle.cedar_expr_model.specs.Tree.{record_literal}
use Rattle.cedar_expr_trees.specs.Trees.{tree_of, named, field_trees}
use Rattle.cedar_expr_trees.specs.Positions.{positions}
use Rattle.cedar_expr_builders.proofs.Kept.{values_named}
use Rattle.cedar_expr_builders.proofs.Ordered.{meant_in_order}
use Rattle.cedar_expr_builders.proofs.expr.ExprBuilderExprBuilder.record.Goals as goal

pub returns-clause-made : goal.returns-clause-made
returns-clause-made g c =
    c.in_ok-record_arc.ensures.made
    ∙ ap (λ m. record_literal (tree_fields (named (field_trees m.entries)))) c.in_ok-fields-2.ensures.ok
    ∙ ap (λ ps. record_literal (tree_fields ps)) (meant_in_order (tree_of {T = g.row.T.Denot}) c.in_ok-fields.fields.entries c.args.pairs.items c.in_ok-fields.ensures.made)

pub returns-clause-parts : goal.returns-clause-parts
returns-clause-parts g c =
    c.in_ok-record_arc.ensures.parts
    ∙ ap (λ m. flat_map (positions {T = g.row.T.Denot}) (values_of m.entries)) c.in_ok-fields-2.ensures.ok
    ∙ ap (flat_map (positions {T = g.row.T.Denot})) (sym (values_named c.in_ok-fields.fields.entries) ∙ ap values_of c.in_ok-fields.ensures.made)
