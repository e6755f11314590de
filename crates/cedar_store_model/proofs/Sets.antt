-- Slots of conditions, and what adding and linking do to a set of policies.
use Rattle.std.proofs.Common.{◌≡◌, ◌↔◌, arith, List, [], ◌∷◌, ◌++◌, Bool, true, false, cond, ◌&&◌, ◌||◌, refl, sym, ap, ◌∙◌, subst, append_assoc}
use Rattle.std.specs.Prelude.{Option, Some, None, Contains, is_none, option_map}
use Rattle.std.specs.Bool.{Decides}
use Rattle.std.specs.List.{list_any}
use Rattle.std.specs.Str.{bytes_eq}
use Rattle.std.proofs.lemmas.List.Elements.{filter_map-append}
use Rattle.std.proofs.lemmas.List.{map-append}
use Rattle.std.proofs.lemmas.List.Folds.{list_any-append}
use Rattle.std.proofs.lemmas.Slice.Eq.{bytes_eq-Decides}
use Rattle.cedar_expr_model.specs.Name.{Text}
use Rattle.cedar_expr_model.specs.Uid.{Uid}
use Rattle.cedar_expr_model.specs.Value.{truth}
use Rattle.cedar_expr_model.specs.Tree.{Tree, lit, var, both, binary, is_type, set_literal, SlotId, principal_slot, resource_slot, Var, principal, resource, is_in}
use Rattle.cedar_expr_model.specs.Builder.{conjunction}
use Rattle.cedar_expr_model.specs.Parts.{subexpressions, slot_here, slots}
use Rattle.cedar_expr_model.proofs.Lists.{any_has, any_from, map_from}
use Rattle.cedar_expr_model.proofs.Repeating.{distinct_last}
use Rattle.cedar_store_model.specs.Answer.{ids}
use Rattle.cedar_store_model.proofs.Distinct.{distinct-Decides, distinct_between}
use Rattle.cedar_store_model.specs.Policy.{Policy, SlotBindings, Target, named, own_slot, Scope, any, exactly, inside, of_kind, of_kind_inside, ActionScope, any_action, exactly_action, inside_actions, tree_uses, has_slot, target_tree, scope_tree, action_tree, body_tree}
use Rattle.cedar_store_model.specs.PolicySet.{PolicySet, is_taken, template_of, linked, with_policy, LinkFault, id_present, slot_not_bound, slot_not_of_template, no_template, link_faults, has_link_fault, link, add_template, add_policy}
use Rattle.cedar_store_model.specs.OfLaws.Distinct.{has_distinct_ids}
use Rattle.cedar_store_model.specs.AnswerLaws.{is_own_slot, scope_has_slot, scope_uses}
use Rattle.cedar_expr_model.specs.Repeats.{repeated}
use Rattle.cedar_expr_model.specs.ListLaws.{AreDistinct}
use Rattle.cedar_store_model.proofs.Named.{slot_eq, uid_trees, principal_tree, resource_tree}

-- slots of a conjunction are those of its sides
both_use : (a b : Tree) (s : SlotId) → tree_uses (both a b) s ≡ (tree_uses a s || tree_uses b s)
both_use a b s = ap (list_any (slot_eq s)) (filter_map-append slot_here (subexpressions a) (subexpressions b)) ∙ list_any-append (slot_eq s) (slots a) (slots b)

conjunction_uses : (a b : Tree) (s : SlotId) → tree_uses (conjunction a b) s ≡ (tree_uses a s || tree_uses b s)
conjunction_uses (lit (truth x)) (lit (truth y)) s = refl
conjunction_uses a b s = both_use a b s

target_uses : (r s : SlotId) (t : Target) → tree_uses (target_tree r t) s ≡ (is_own_slot t && slot_eq r s)
target_uses r s (named u) = refl
target_uses principal_slot principal_slot own_slot = refl
target_uses principal_slot resource_slot own_slot = refl
target_uses resource_slot principal_slot own_slot = refl
target_uses resource_slot resource_slot own_slot = refl

part_uses : (x : Var) (r s : SlotId) (c : Scope) → tree_uses (scope_tree x r c) s ≡ (scope_has_slot c && slot_eq r s)
part_uses x r s any = refl
part_uses x r s (exactly t) = target_uses r s t
part_uses x r s (inside t) = target_uses r s t
part_uses x r s (of_kind n) = refl
part_uses x r s (of_kind_inside n t) = conjunction_uses (is_type (var x) n) (binary is_in (var x) (target_tree r t)) s ∙ target_uses r s t

uids_use : (us : List Uid) (s : SlotId) → tree_uses (set_literal (uid_trees us)) s ≡ false
uids_use [] s = refl
uids_use (u ∷ us) s = uids_use us s

action_uses : (c : ActionScope) (s : SlotId) → tree_uses (action_tree c) s ≡ false
action_uses any_action s = refl
action_uses (exactly_action u) s = refl
action_uses (inside_actions us) s = uids_use us s

first_slot : (p r b : Bool) → ((p && true) || (false || ((r && false) || b))) ≡ (p || b)
first_slot true r b = refl
first_slot false true b = refl
first_slot false false b = refl

second_slot : (p r b : Bool) → ((p && false) || (false || ((r && true) || b))) ≡ (r || b)
second_slot true true b = refl
second_slot true false b = refl
second_slot false true b = refl
second_slot false false b = refl

either_slot : (p : Policy) (s : SlotId) → ((scope_has_slot p.principal && slot_eq principal_slot s) || (false || ((scope_has_slot p.resource && slot_eq resource_slot s) || tree_uses (body_tree p.body) s))) ≡ (scope_uses p s || tree_uses (body_tree p.body) s)
either_slot p principal_slot = first_slot (scope_has_slot p.principal) (scope_has_slot p.resource) (tree_uses (body_tree p.body) principal_slot)
either_slot p resource_slot = second_slot (scope_has_slot p.principal) (scope_has_slot p.resource) (tree_uses (body_tree p.body) resource_slot)

pub condition_uses : (p : Policy) (s : SlotId) → has_slot p s ≡ (scope_uses p s || tree_uses (body_tree p.body) s)
condition_uses p s =
    let c = conjunction (resource_tree p) (body_tree p.body) in
    let b = conjunction (action_tree p.action) c in
    conjunction_uses (principal_tree p) b s
    ∙ ap (λ x. tree_uses (principal_tree p) s || x) (conjunction_uses (action_tree p.action) c s)
    ∙ ap (λ x. tree_uses (principal_tree p) s || (tree_uses (action_tree p.action) s || x)) (conjunction_uses (resource_tree p) (body_tree p.body) s)
    ∙ (λ i. part_uses principal principal_slot s p.principal i || (action_uses p.action s i || (part_uses resource resource_slot s p.resource i || tree_uses (body_tree p.body) s)))
    ∙ either_slot p s

-- linking
neither : (a b : Bool) → (a || b) ≡ false → (a ≡ false) × (b ≡ false)
neither true b h = cc
neither false b h = (refl, h)

refused : {A : Type 0} (c : Bool) (a : A) → cond c None (Some a) ≡ None → c ≡ true
refused true a h = refl
refused false a h = cc

taken : {A : Type 0} (c : Bool) (a r : A) → cond c None (Some a) ≡ Some r → (c ≡ false) × (r ≡ a)
taken true a r h = cc
taken false a r h = (refl, cc)

-- a fault that is there is one of the list
listed_fault : (test : LinkFault → Bool) (f : LinkFault) → test f ≡ true → list_any test link_faults ≡ true
listed_fault test f h = any_has test link_faults f (stands f) h
  where
    stands : (g : LinkFault) → Contains link_faults g
    stands id_present = (0, omega arith, refl)
    stands slot_not_bound = (1, omega arith, refl)
    stands slot_not_of_template = (2, omega arith, refl)
    stands no_template = (3, omega arith, refl)

module _ (s : PolicySet) (template id : Text) (b : SlotBindings) where
  abbrev fault_there : LinkFault → Bool
  fault_there = has_link_fault s template id b

  -- where no fault is there the template is
  found_template : (o : Option Policy) → template_of template s ≡ o → list_any fault_there link_faults ≡ false → (t : Policy) × (o ≡ Some t)
  found_template None e h = let q : list_any fault_there link_faults ≡ true = listed_fault fault_there no_template (ap is_none e) in cc
  found_template (Some t) e h = (t, refl)

  is_refused : (c : Bool) → list_any fault_there link_faults ≡ c → cond c None (option_map (λ t. with_policy s (linked t id b)) (template_of template s)) ≡ None → c ≡ true
  is_refused true e h = refl
  is_refused false e h = let p = found_template (template_of template s) refl e in let k = ap (option_map (λ t. with_policy s (linked t id b))) p.1 in cc

  pub linked_refused : (link s template id b ≡ None) ↔ ((f : LinkFault) × (has_link_fault s template id b f ≡ true))
  linked_refused = (
    λ h. let r = any_from fault_there link_faults (is_refused (list_any fault_there link_faults) refl h) in (r.0, r.2),
    λ p. let e = listed_fault fault_there p.0 p.1 in rw e refl,
  )

  taken_case : (c : Bool) (o : Option Policy) (r : PolicySet) → cond c None (option_map (λ t. with_policy s (linked t id b)) o) ≡ Some r → (c ≡ false) × ((t : Policy) × (o ≡ Some t) × (r ≡ with_policy s (linked t id b)))
  taken_case true o r h = cc
  taken_case false None r h = cc
  taken_case false (Some t) r h = (refl, (t, refl, cc))

  pub linked_taken : (r : PolicySet) → link s template id b ≡ Some r → (t : Policy) × (template_of template s ≡ Some t) × (r ≡ with_policy s (linked t id b)) × (is_taken id s ≡ false)
  linked_taken r h =
      let k = taken_case (list_any fault_there link_faults) (template_of template s) r h in
      (k.1.0, k.1.1, k.1.2, (neither (is_taken id s) _ k.0).0)

pub linking_is_exact : (s : PolicySet) (template id : Text) (b : SlotBindings) → ((link s template id b ≡ None) ↔ ((f : LinkFault) × (has_link_fault s template id b f ≡ true))) × ((r : PolicySet) → link s template id b ≡ Some r → (t : Policy) × (template_of template s ≡ Some t) × (r ≡ with_policy s (linked t id b)))
linking_is_exact s template id b = (linked_refused s template id b, λ r h. let k = linked_taken s template id b r h in (k.0, k.1, k.2))

-- ids stay apart
-- what has no id that stands among these
distinct_ids-Decides : (ps : List Policy) → Decides (is_none (repeated bytes_eq (ids ps))) (AreDistinct (ids ps))
distinct_ids-Decides ps = distinct-Decides bytes_eq bytes_eq-Decides (ids ps)

-- the ids of a set in a row
apart_ids : (s : PolicySet) → has_distinct_ids s ≡ true → AreDistinct (ids s.templates ++ ids s.policies)
apart_ids s h = subst AreDistinct (map-append (λ (p : Policy). p.id) s.templates s.policies) ((distinct_ids-Decides (s.templates ++ s.policies)).0 h)

ids_apart : (s : PolicySet) → AreDistinct (ids s.templates ++ ids s.policies) → has_distinct_ids s ≡ true
ids_apart s h = (distinct_ids-Decides (s.templates ++ s.policies)).1 (subst AreDistinct (sym (map-append (λ (p : Policy). p.id) s.templates s.policies)) h)

not_in_set : (s : PolicySet) (id : Text) → is_taken id s ≡ false → ¬ (Contains (ids s.templates ++ ids s.policies) id)
not_in_set s id e c =
    let k = map_from (λ (p : Policy). p.id) (s.templates ++ s.policies) id (subst (λ l. Contains l id) (sym (map-append (λ (p : Policy). p.id) s.templates s.policies)) c) in
    let t : is_taken id s ≡ true = any_has (λ (p : Policy). bytes_eq id p.id) (s.templates ++ s.policies) k.0 k.1 ((bytes_eq-Decides id k.0.id).1 (sym k.2)) in
    let q = sym t ∙ e in cc

policy_keeps : (s : PolicySet) (p : Policy) → has_distinct_ids s ≡ true → is_taken p.id s ≡ false → has_distinct_ids (with_policy s p) ≡ true
policy_keeps s p h e =
    let last = ap (λ l. ids s.templates ++ l) (map-append (λ (q : Policy). q.id) s.policies (p ∷ [])) in
    ids_apart (with_policy s p)
    (subst AreDistinct (append_assoc (ids s.templates) (ids s.policies) (p.id ∷ []) ∙ sym last)
    (distinct_last (ids s.templates ++ ids s.policies) p.id (apart_ids s h) (not_in_set s p.id e)))

template_keeps : (s : PolicySet) (p : Policy) → has_distinct_ids s ≡ true → is_taken p.id s ≡ false → has_distinct_ids (record s { templates = s.templates ++ p ∷ [] }) ≡ true
template_keeps s p h e =
    let last = ap (λ l. l ++ ids s.policies) (map-append (λ (q : Policy). q.id) s.templates (p ∷ [])) in
    ids_apart (record s { templates = s.templates ++ p ∷ [] })
    (subst AreDistinct (sym (append_assoc (ids s.templates) (p.id ∷ []) (ids s.policies)) ∙ sym last)
    (distinct_between (ids s.templates) (ids s.policies) p.id (apart_ids s h) (not_in_set s p.id e)))

holds_of : (s r : PolicySet) → r ≡ s → has_distinct_ids s ≡ true → has_distinct_ids r ≡ true
holds_of s r e h = ap has_distinct_ids e ∙ h

pub ids_stay_distinct : (s r : PolicySet) → has_distinct_ids s ≡ true
    → ((p : Policy) → add_template s p ≡ Some r → has_distinct_ids r ≡ true)
    × ((p : Policy) → add_policy s p ≡ Some r → has_distinct_ids r ≡ true)
    × ((template id : Text) (b : SlotBindings) → link s template id b ≡ Some r → has_distinct_ids r ≡ true)
ids_stay_distinct s r h = (
  λ p e. let k = taken (is_taken p.id s) (record s { templates = s.templates ++ p ∷ [] }) r e in holds_of (record s { templates = s.templates ++ p ∷ [] }) r k.1 (template_keeps s p h k.0),
  λ p e. let k = taken (is_taken p.id s) (with_policy s p) r e in holds_of (with_policy s p) r k.1 (policy_keeps s p h k.0),
  λ t id b e. let k = linked_taken s t id b r e in holds_of (with_policy s (linked k.0 id b)) r k.2 (policy_keeps s (linked k.0 id b) h k.3),
)
