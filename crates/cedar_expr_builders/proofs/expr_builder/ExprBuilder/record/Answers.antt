use Rattle.std.proofs.Common.{ap, ◌∙◌}
use Rattle.cedar_expr_trees.specs.Trees.{named}
use Rattle.cedar_expr_builders.specs.Views.{meant}
use Rattle.cedar_expr_builders.proofs.Ordered.{meant_in_order}
use Rattle.cedar_expr_builders.proofs.expr_builder.ExprBuilder.record.Goals as goal

pub returns-clause-made : goal.returns-clause-made
returns-clause-made g c =
    let means = g.Self.ExprBuilder.means in
    let made = g.Self.ExprBuilder.steps.of_record in
    c.in_ok-record_arc.ensures
    ∙ ap (λ m. made (named (meant means m.entries))) c.in_ok-fields-2.ensures.ok
    ∙ ap made (meant_in_order means c.in_ok-fields.fields.entries c.args.pairs.items c.in_ok-fields.ensures.made)
