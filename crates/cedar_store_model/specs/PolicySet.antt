-- Sets of policies: templates and policies, each in the order of insertion, under ids that are used once.
-- Rule: policies and templates (docs/RULES.md).
use Rattle.std.specs.Prelude.{◌&&◌, find, List, [], ◌∷◌, ◌++◌, Bool, false, not, Option, Some, None, is_some, is_none, option_map, if◌then◌else◌}
use Rattle.std.specs.Option.{option_map_or}
use Rattle.std.specs.List.{list_any}
use Rattle.std.specs.Str.{bytes_eq}
use Rattle.cedar_expr_model.specs.Name.{Text}
use Rattle.cedar_expr_model.specs.Lists.{is_nil}
use Rattle.cedar_expr_model.specs.Parts.{slots}
use Rattle.cedar_store_model.specs.Policy.{Policy, SlotBindings, binding_of, condition, has_slot, all_slots}

pub record PolicySet : Type 0 where
  pub templates : List Policy
  pub policies : List Policy

-- a policy without slots
abbrev pub is_static : Policy → Bool
is_static p = is_nil (slots (condition p))

-- the id is present, as a template's or a policy's
abbrev pub is_taken : Text → PolicySet → Bool
is_taken id s = list_any (λ p. bytes_eq id p.id) (s.templates ++ s.policies)

-- the template of this id
abbrev pub template_of : Text → PolicySet → Option Policy
template_of id s = find (λ p. bytes_eq id p.id) s.templates

-- The policy of a template: the template under an id of its own, with bindings for its slots.
abbrev pub linked : Policy → Text → SlotBindings → Policy
linked t id b = record t { id = id; bindings = b }

-- the set with a policy at the end
abbrev pub with_policy : PolicySet → Policy → PolicySet
with_policy s p = record s { policies = s.policies ++ p ∷ [] }

-- why a template isn't linked
pub data LinkFault : Type 0 where
  id_present slot_not_bound slot_not_of_template no_template : LinkFault

abbrev pub link_faults : List LinkFault
link_faults = id_present ∷ slot_not_bound ∷ slot_not_of_template ∷ no_template ∷ []

-- The fault is there, where a template of the set is linked under a new id with bindings: a slot of the template is not bound, or
-- one is bound that the template has not.
abbrev pub has_link_fault : PolicySet → Text → Text → SlotBindings → LinkFault → Bool
has_link_fault s template id b id_present = is_taken id s
has_link_fault s template id b slot_not_bound = option_map_or (λ t. list_any (λ x. has_slot t x && is_none (binding_of b x)) all_slots) (template_of template s) false
has_link_fault s template id b slot_not_of_template = option_map_or (λ t. list_any (λ x. not (has_slot t x) && is_some (binding_of b x)) all_slots) (template_of template s) false
has_link_fault s template id b no_template = is_none (template_of template s)

-- the set after linking, where none of the faults is there
abbrev pub link : PolicySet → Text → Text → SlotBindings → Option PolicySet
link s template id b = if list_any (has_link_fault s template id b) link_faults then None else option_map (λ t. with_policy s (linked t id b)) (template_of template s)

-- The set with a template, or a policy, whose id isn't present yet.
abbrev pub add_template : PolicySet → Policy → Option PolicySet
add_template s t = if is_taken t.id s then None else Some (record s { templates = s.templates ++ t ∷ [] })

abbrev pub add_policy : PolicySet → Policy → Option PolicySet
add_policy s p = if is_taken p.id s then None else Some (with_policy s p)
