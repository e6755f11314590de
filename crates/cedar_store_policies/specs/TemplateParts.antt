-- What the parts of a template make as the model's policy.
-- Rule: policies and templates (docs/RULES.md).
use Rattle.std.specs.Prelude.{List, map, Option, option_map}
use Rattle.cedar_expr_leaves.specs.declared.slot.Slot as code
use Rattle.cedar_expr_leaves.specs.Slots.{slot_of}
use Rattle.cedar_expr_model.specs.Tree.{Tree, SlotId}
use Rattle.cedar_expr_trees.specs.Trees.{tree_of}
use Rattle.cedar_store_model.specs.Policy as model
use Rattle.cedar_store_model.specs.Policy.{no_bindings}
use Rattle.cedar_store_parts.specs.Parts.{id_text, effect_of, annotations_of, scope_of, action_scope_of}
use Rattle.cedar_store_parts.specs.declared.policy_id.PolicyID.{PolicyID}
use Rattle.cedar_store_parts.specs.declared.policy_id.Effect.{Effect}
use Rattle.cedar_store_parts.specs.declared.annotation.Annotations.{Annotations}
use Rattle.cedar_store_parts.specs.declared.constraint.PrincipalConstraint.{PrincipalConstraint}
use Rattle.cedar_store_parts.specs.declared.constraint.ResourceConstraint.{ResourceConstraint}
use Rattle.cedar_store_parts.specs.declared.constraint.ActionConstraint.{ActionConstraint}
use Rattle.cedar_store_policies.specs.Places.{Places, places_made, slots_within, nodes_within}
use Rattle.cedar_store_policies.specs.declared.template_body.TemplateBody.{TemplateBody}

-- the template of these parts
abbrev pub template_made : PolicyID → Effect → Annotations → PrincipalConstraint → ActionConstraint → ResourceConstraint → Option Tree → model.Policy
template_made id effect annotations p a r body = record {
  id = id_text id;
  effect = effect_of effect;
  annotations = annotations_of annotations;
  principal = scope_of p.constraint;
  action = action_scope_of a;
  resource = scope_of r.constraint;
  body = body;
  bindings = no_bindings;
}

abbrev pub made_of : TemplateBody → model.Policy
made_of t =
    template_made t.id t.effect t.annotations.value t.principal_constraint t.action_constraint t.resource_constraint (option_map (λ e. tree_of e.value) t.non_scope_constraint)

abbrev pub body_places : TemplateBody → Places
body_places t =
    places_made t.loc t.annotations.value t.principal_constraint t.action_constraint t.resource_constraint (option_map (λ e. slots_within e.value) t.non_scope_constraint) (option_map (λ e. nodes_within e.value) t.non_scope_constraint)

-- slots without their places
abbrev pub slot_ids : List code.Slot → List SlotId
slot_ids ss = map (λ s. slot_of s.id) ss
