-- Copies of a scope and of a template.
use Rattle.std.proofs.Common.{◌≡◌, Option, None, Result, Ok, Err, IfOk, refl, ap, ◌∙◌}
use Rattle.cedar_expr_model.specs.Tree.{Tree}
use Rattle.cedar_store_model.specs.Policy.{Target, named, own_slot, Scope, any, exactly, inside, of_kind, of_kind_inside, no_bindings, Policy}
use Rattle.cedar_store_parts.specs.Parts.{filled_target, filled, id_text, effect_of, annotations_of, scope_of, action_scope_of}
use Rattle.cedar_store_parts.specs.declared.annotation.Annotations.{Annotations}
use Rattle.cedar_store_parts.specs.declared.constraint.ActionConstraint.{ActionConstraint}
use Rattle.cedar_store_parts.specs.declared.constraint.PrincipalConstraint.{PrincipalConstraint}
use Rattle.cedar_store_parts.specs.declared.constraint.ResourceConstraint.{ResourceConstraint}
use Rattle.cedar_store_parts.specs.declared.policy_id.Effect.{Effect}
use Rattle.cedar_store_parts.specs.declared.policy_id.PolicyID.{PolicyID}
use Rattle.cedar_store_policies.specs.TemplateParts.{template_made}
use Rattle.cedar_store_policies.specs.Templates.{template_of}
use Rattle.cedar_store_policies.specs.declared.template.Template.{Template}

-- a scope in which no slot is filled stays as it is
unfilled_target : (t : Target) → filled_target None t ≡ t
unfilled_target (named u) = refl
unfilled_target own_slot = refl

pub unfilled : (s : Scope) → filled None s ≡ s
unfilled any = refl
unfilled (exactly t) = ap exactly (unfilled_target t)
unfilled (inside t) = ap inside (unfilled_target t)
unfilled (of_kind n) = refl
unfilled (of_kind_inside n t) = ap (of_kind_inside n) (unfilled_target t)

-- a template of the same parts
pub made_same : (t : Template) (id : PolicyID) (effect : Effect) (annotations : Annotations) (p : PrincipalConstraint) (a : ActionConstraint) (r : ResourceConstraint) (body : Option Tree)
    → id_text id ≡ (template_of t).id → effect_of effect ≡ (template_of t).effect → annotations_of annotations ≡ (template_of t).annotations → scope_of p.constraint ≡ (template_of t).principal
    → action_scope_of a ≡ (template_of t).action → scope_of r.constraint ≡ (template_of t).resource → body ≡ (template_of t).body → template_made id effect annotations p a r body ≡ template_of t
made_same t id effect annotations p a r body ei ee en ep ea er eb = λ i. record {
  id = ei i;
  effect = ee i;
  annotations = en i;
  principal = ep i;
  action = ea i;
  resource = er i;
  body = eb i;
  bindings = no_bindings;
}

pub with_same : {E : Type 0} (r : Result Template E) (p q : Policy) → p ≡ q → IfOk r (λ t. template_of t ≡ p) → IfOk r (λ t. template_of t ≡ q)
with_same (Ok t) p q e h = h ∙ e
with_same (Err x) p q e h = tt
