use Rattle.std.proofs.Common.{ap, ◌∙◌}
use Rattle.cedar_store_parts.specs.Parts.{annotations_of}
use Rattle.cedarcheck.proofs.Copying.{made_same, with_same}
use Rattle.cedarcheck.proofs.subjects.with_body.Goals as goal

pub returns : goal.returns
returns c = λ h.
    with_same c.new_shared.result _ _
    (made_same c.args.template.now c.in_ok-id.id c.effect-effect.result c.in_ok-annotations.annotations.value _ c.in_ok-action.action _ _
    (c.in_ok-id.ensures.cases ∙ c.id.ensures)
    c.effect-effect.ensures
    (ap annotations_of c.in_ok-annotations.ensures.cases ∙ c.annotations_arc.ensures.texts)
    (c.in_ok-constraint.ensures ∙ c.principal_constraint.ensures.scope)
    (c.in_ok-action.ensures ∙ c.action_constraint.ensures.scope)
    (c.in_ok-constraint-2.ensures ∙ c.resource_constraint.ensures.scope)
    h)
    c.new_shared.ensures.parts
