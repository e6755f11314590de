-- The slots of a template, and the bindings that fit them.
use Rattle.std.proofs.Common.{◌≡◌, ◌==◌, ◌&&◌, Bool, true, false, cond, ◌||◌, List, [], ◌∷◌, Option, Some, None, option_map, not, refl, ap, ◌∙◌}
use Rattle.std.specs.List.{list_any}
use Rattle.std.specs.Option.{is_some, is_none, option_map_or}
use Rattle.cedar_expr_leaves.specs.Slots.{slot_of}
use Rattle.cedar_expr_leaves.specs.declared.slot.Slot.{Slot}
use Rattle.cedar_expr_model.specs.Name.{Text}
use Rattle.cedar_expr_model.specs.Uid.{Uid}
use Rattle.cedar_expr_model.specs.Shape.{slot_rank}
use Rattle.cedar_expr_model.specs.Tree.{SlotId, principal_slot, resource_slot}
use Rattle.cedar_store_model.specs.Policy.{Policy, SlotBindings, binding_of, has_slot, all_slots}
use Rattle.cedar_store_model.specs.PolicySet.{PolicySet, is_taken, template_of, linked, with_policy, link}
use Rattle.cedar_store_policies.specs.TemplateParts.{slot_ids}
use Rattle.cedar_store_policies.specs.SetRefusals.{FitsBindings, RefusesBindings, RefusesLink}
use Rattle.cedar_store_parts.specs.declared.err.LinkingError.{LinkingError}
use Rattle.cedar_store_parts.specs.declared.err.LinkingError.TheVariants.{OutOfMemory, PolicyIdConflict, UnboundSlot, ExtraSlot, NoSuchTemplate}

any_slots : (s : SlotId) (ss : List Slot) → list_any (λ c. slot_rank s == slot_rank (slot_of c.id)) ss ≡ list_any (λ r. slot_rank s == slot_rank r) (slot_ids ss)
any_slots s [] = refl
any_slots s (c ∷ ss) = ap (λ b. (slot_rank s == slot_rank (slot_of c.id)) || b) (any_slots s ss)

-- a slot stands among these where it is one of them
pub slots_used : (s : SlotId) (ss : List Slot) (b : Bool) (rs : List SlotId) → b ≡ list_any (λ c. slot_rank s == slot_rank (slot_of c.id)) ss → slot_ids ss ≡ rs → b ≡ list_any (λ r. slot_rank s == slot_rank r) rs
slots_used s ss b rs h e = h ∙ any_slots s ss ∙ ap (list_any (λ r. slot_rank s == slot_rank r)) e

-- one of the two slots passes the test
any_slot : (f : SlotId → Bool) (x : SlotId) → f x ≡ true → list_any f all_slots ≡ true
any_slot f principal_slot h = ap (λ b. b || (f resource_slot || false)) h
any_slot f resource_slot h = go (f principal_slot) (ap (λ b. b || false) h)
  where
    go : (b : Bool) → (f resource_slot || false) ≡ true → (b || (f resource_slot || false)) ≡ true
    go true e = refl
    go false e = e

no_slot : (f : SlotId → Bool) → f principal_slot ≡ false → f resource_slot ≡ false → list_any f all_slots ≡ false
no_slot f p r = (λ i. p i || (r i || false))

bound : (h : Bool) (o : Option Uid) → h ≡ is_some o → (h && is_none o) ≡ false
bound h None e = ap (λ b. b && true) e
bound h (Some u) e = ap (λ b. b && false) e

used : (h : Bool) (o : Option Uid) → h ≡ is_some o → (not h && is_some o) ≡ false
used h None e = ap (λ b. not b && false) e
used h (Some u) e = ap (λ b. not b && true) e

module _ (s : PolicySet) (template id : Text) (b : SlotBindings) (t : Policy) (found : template_of template s ≡ Some t) where
  abbrev unbound : Policy → Bool
  unbound p = list_any (λ x. has_slot p x && is_none (binding_of b x)) all_slots

  abbrev extra : Policy → Bool
  extra p = list_any (λ x. not (has_slot p x) && is_some (binding_of b x)) all_slots

  abbrev by_parts : Bool → Option Policy → Bool
  by_parts taken o = taken || (option_map_or unbound o false || (option_map_or extra o false || (is_none o || false)))

  abbrev put : Policy → PolicySet
  put p = with_policy s (linked p id b)

  -- a template whose slots are those that are bound is linked under a new id
  pub linked_is : FitsBindings t b → is_taken id s ≡ false → link s template id b ≡ Some (with_policy s (linked t id b))
  linked_is fits free =
      let u = no_slot (λ x. has_slot t x && is_none (binding_of b x)) (bound (has_slot t principal_slot) b.principal fits.principal) (bound (has_slot t resource_slot) b.resource fits.resource) in
      let e = no_slot (λ x. not (has_slot t x) && is_some (binding_of b x)) (used (has_slot t principal_slot) b.principal fits.principal) (used (has_slot t resource_slot) b.resource fits.resource) in
      (λ i. cond (by_parts (free i) (found i)) None (option_map put (found i))) ∙ (λ i. cond (u i || (e i || false)) None (Some (put t)))

  -- why its bindings don't fit is why it isn't linked
  pub refused_by : (e : LinkingError) → RefusesBindings t b e → RefusesLink s template id b e
  refused_by OutOfMemory h = tt
  refused_by (PolicyIdConflict i) h = absurd h
  refused_by (UnboundSlot x) h = (
    ap (λ o. option_map_or unbound o false) found ∙ any_slot (λ y. has_slot t y && is_none (binding_of b y)) (slot_of x) h,
    ap (λ o. option_map_or (λ p. has_slot p (slot_of x) && is_none (binding_of b (slot_of x))) o false) found ∙ h,
  )
  refused_by (ExtraSlot x) h = (
    ap (λ o. option_map_or extra o false) found ∙ any_slot (λ y. not (has_slot t y) && is_some (binding_of b y)) (slot_of x) h,
    ap (λ o. option_map_or (λ p. not (has_slot p (slot_of x)) && is_some (binding_of b (slot_of x))) o false) found ∙ h,
  )
  refused_by (NoSuchTemplate i) h = absurd h
