-- What code policies are as the model's.
-- Rule: policies and templates (docs/RULES.md).
use Rattle.std.specs.Option.{option_map_or}
use Rattle.std.specs.Prelude.{Option}
use Rattle.cedar_expr_names.specs.declared.loc.Loc.{Loc}
use Rattle.cedar_store_model.specs.Policy as model
use Rattle.cedar_store_model.specs.PolicySet.{linked}
use Rattle.cedar_store_parts.specs.Parts.{id_text, bindings_of, BindingPlaces, binding_places}
use Rattle.cedar_store_policies.specs.Places.{Places}
use Rattle.cedar_store_policies.specs.Templates.{template_of, template_loc, places_of}
use Rattle.cedar_store_policies.specs.declared.static_policy.StaticPolicy.{StaticPolicy}
use Rattle.cedar_store_policies.specs.declared.policy.Policy.{Policy}

-- the policy without slots
abbrev pub static_of : StaticPolicy → model.Policy
static_of p = template_of p.template

-- where it stands
abbrev pub static_loc : StaticPolicy → Option Loc
static_loc p = template_loc p.template

-- A policy: its template under the policy's id, or under the template's own where it has none, with what the slots are bound to.
abbrev pub policy_of : Policy → model.Policy
policy_of p = linked (template_of p.template.value) (option_map_or id_text p.link (template_of p.template.value).id) (bindings_of p.values)

-- the template of a policy, and where that stands
abbrev pub template_behind : Policy → model.Policy
template_behind p = template_of p.template.value

abbrev pub policy_loc : Policy → Option Loc
policy_loc p = template_loc p.template.value

-- the places of a policy: those of its template
abbrev pub static_places : StaticPolicy → Places
static_places p = places_of p.template

abbrev pub policy_places : Policy → Places
policy_places p = places_of p.template.value

-- the places of the uids that a policy's slots are bound to
abbrev pub policy_bound : Policy → BindingPlaces
policy_bound p = binding_places p.values
