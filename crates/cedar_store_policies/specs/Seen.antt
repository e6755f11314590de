-- What the model's set of policies doesn't see of a code set: places, and the templates behind policies.
-- Rule: policies and templates (docs/RULES.md).
use Rattle.std.specs.Prelude.{find, None, List, [], ◌∷◌, ◌++◌, map, Option}
use Rattle.std.specs.Str.{bytes_eq}
use Rattle.std.specs.declared.alloc.Global.{Global}
use Rattle.std.specs.declared.rc.Rc.{Rc}
use Rattle.cedar_expr_model.specs.Name.{Text}
use Rattle.cedar_store_model.specs.Policy as model
use Rattle.cedar_store_policies.specs.Places.{Places}
use Rattle.cedar_store_policies.specs.Templates.{template_of, places_of}
use Rattle.cedar_store_policies.specs.Policies.{static_of, static_places, policy_of, policy_places, policy_bound, template_behind}
use Rattle.cedar_store_parts.specs.Parts.{BindingPlaces}
use Rattle.cedar_store_parts.specs.declared.policy_id.PolicyID.{PolicyID}
use Rattle.cedar_store_policies.specs.declared.template.Template.{Template}
use Rattle.cedar_store_policies.specs.declared.static_policy.StaticPolicy.{StaticPolicy}
use Rattle.cedar_store_policies.specs.declared.policy.Policy.{Policy}

-- What is seen of a template or a policy: its id, its places, the template behind it, which of a template is the template, and
-- the places of what the slots are bound to.
pub record Seen : Type 0 where
  pub id : Text
  pub places : Places
  pub template : model.Policy
  pub bound : BindingPlaces

-- no slot is bound
abbrev pub none_bound : BindingPlaces
none_bound = record { principal = None; resource = None }

abbrev pub template_seen : Template → Seen
template_seen t = record { id = (template_of t).id; places = places_of t; template = template_of t; bound = none_bound }

abbrev pub static_seen : StaticPolicy → Seen
static_seen p = record { id = (static_of p).id; places = static_places p; template = static_of p; bound = none_bound }

abbrev pub policy_seen : Policy → Seen
policy_seen p = record { id = (policy_of p).id; places = policy_places p; template = template_behind p; bound = policy_bound p }

-- the templates and the policies of a set as they are seen, in order
pub record SetSeen : Type 0 where
  pub templates : List Seen
  pub policies : List Seen

abbrev pub entries_seen : List (PolicyID × Rc Template Global) → List (PolicyID × Policy) → SetSeen
entries_seen ts ps = record { templates = map (λ e. template_seen e.1.value) ts; policies = map (λ e. policy_seen e.1) ps }

-- the set with one more at the end of the templates, or of the policies
abbrev pub with_template_seen : SetSeen → Seen → SetSeen
with_template_seen s t = record s { templates = s.templates ++ t ∷ [] }

abbrev pub with_policy_seen : SetSeen → Seen → SetSeen
with_policy_seen s p = record s { policies = s.policies ++ p ∷ [] }

-- the first of this id
abbrev pub find_seen : Text → List Seen → Option Seen
find_seen id ss = find (λ p. bytes_eq id p.id) ss

-- what is seen where this one is linked under an id of its own, with uids at these places for its slots
abbrev pub linked_seen : Seen → Text → BindingPlaces → Seen
linked_seen t id bound = record t { id = id; bound = bound }
