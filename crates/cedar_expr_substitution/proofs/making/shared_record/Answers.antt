use Rattle.std.proofs.Common.{ap, ◌∙◌}
use Rattle.cedar_expr_trees.specs.Trees.{named}
use Rattle.cedar_expr_builders.specs.Views.{meant}
use Rattle.cedar_expr_builders.proofs.Ordered.{meant_rising}
use Rattle.cedar_expr_substitution.proofs.Gathered.{means_other}
use Rattle.cedar_expr_substitution.proofs.making.shared_record.Goals as goal

pub returns : goal.returns
returns g c = λ h.
    let means = g.B.ExprBuilder.means in
    let made = g.B.ExprBuilder.steps.of_record in
    means_other c.record_arc.result means _ _
    (ap (λ m. made (named (meant means m.entries))) c.in_ok-fields-2.ensures.ok
    ∙ ap made (meant_rising means c.in_ok-fields.fields.entries c.args.fields.items c.in_ok-fields.ensures h))
    c.record_arc.ensures
