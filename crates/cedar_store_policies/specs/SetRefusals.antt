-- What the refusals of a set of policies say.
-- Rule: policies and templates (docs/RULES.md).
use Rattle.std.specs.Prelude.{◌≡◌, ◌&&◌, List, true, false, Some, is_none, is_some, not}
use Rattle.std.specs.Str.{bytes_eq}
use Rattle.std.specs.Option.{option_map_or}
use Rattle.cedar_expr_leaves.specs.Slots.{slot_of}
use Rattle.cedar_expr_model.specs.Name.{Text}
use Rattle.cedar_expr_model.specs.Tree.{principal_slot, resource_slot}
use Rattle.cedar_expr_model.specs.Repeats.{repeated}
use Rattle.cedar_store_model.specs.Policy.{Policy, SlotBindings, binding_of, has_slot}
use Rattle.cedar_store_model.specs.PolicySet as model
use Rattle.cedar_store_model.specs.PolicySet.{id_present, slot_not_bound, slot_not_of_template, no_template, is_taken, template_of, has_link_fault}
use Rattle.cedar_store_parts.specs.Parts.{id_text}
use Rattle.cedar_store_parts.specs.declared.err.PolicySetError.{PolicySetError}
use Rattle.cedar_store_parts.specs.declared.err.PolicySetError.TheVariants as adding
use Rattle.cedar_store_parts.specs.declared.err.LinkingError.{LinkingError}
use Rattle.cedar_store_parts.specs.declared.err.LinkingError.TheVariants as linking

-- The fault is there where a policy or a template of this id is added. Out of memory says nothing.
abbrev pub RefusesId : model.PolicySet → Text → PolicySetError → Type 0
RefusesId s id adding.OutOfMemory = Unit {0}
RefusesId s id (adding.Occupied i) = (is_taken id s ≡ true) × (id_text i ≡ id)

-- The fault is there where policies of these ids make a set: it tells the first id that is repeated. Out of memory says nothing.
abbrev pub RefusesIds : List Text → PolicySetError → Type 0
RefusesIds ids adding.OutOfMemory = Unit {0}
RefusesIds ids (adding.Occupied i) = repeated bytes_eq ids ≡ Some (id_text i)

-- the slots of a template are those that are bound
pub record FitsBindings (t : Policy) (b : SlotBindings) : Type 0 where
  pub principal : has_slot t principal_slot ≡ is_some b.principal
  pub resource : has_slot t resource_slot ≡ is_some b.resource

-- The fault is there where the slots of a template are bound so, at this slot.
abbrev pub RefusesBindings : Policy → SlotBindings → LinkingError → Type 0
RefusesBindings t b linking.OutOfMemory = ⊥
RefusesBindings t b (linking.PolicyIdConflict id) = ⊥
RefusesBindings t b (linking.UnboundSlot x) = (has_slot t (slot_of x) && is_none (binding_of b (slot_of x))) ≡ true
RefusesBindings t b (linking.ExtraSlot x) = (not (has_slot t (slot_of x)) && is_some (binding_of b (slot_of x))) ≡ true
RefusesBindings t b (linking.NoSuchTemplate id) = ⊥

-- The fault is there where a template of the set is linked, and, of a slot, at this one. Out of memory says nothing.
abbrev pub RefusesLink : model.PolicySet → Text → Text → SlotBindings → LinkingError → Type 0
RefusesLink s template id b linking.OutOfMemory = Unit {0}
RefusesLink s template id b (linking.PolicyIdConflict i) = (has_link_fault s template id b id_present ≡ true) × (id_text i ≡ id)
RefusesLink s template id b (linking.UnboundSlot x) = (has_link_fault s template id b slot_not_bound ≡ true) × (option_map_or (λ t. has_slot t (slot_of x) && is_none (binding_of b (slot_of x))) (template_of template s) false ≡ true)
RefusesLink s template id b (linking.ExtraSlot x) = (has_link_fault s template id b slot_not_of_template ≡ true) × (option_map_or (λ t. not (has_slot t (slot_of x)) && is_some (binding_of b (slot_of x))) (template_of template s) false ≡ true)
RefusesLink s template id b (linking.NoSuchTemplate i) = (has_link_fault s template id b no_template ≡ true) × (id_text i ≡ template)
