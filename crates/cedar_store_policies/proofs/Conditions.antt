-- The slots of a condition are those of its scope, and then those of its body.
use Rattle.std.proofs.Common.{◌≡◌, List, [], ◌∷◌, ◌++◌, map, refl, sym, ap, ◌∙◌, append_assoc}
use Rattle.std.proofs.lemmas.List.Elements.{filter_map-append}
use Rattle.cedar_expr_model.specs.Uid.{Uid}
use Rattle.cedar_expr_model.specs.Builder.{conjunction, trees}
use Rattle.cedar_expr_model.specs.Parts.{subexpressions, slot_here, slots}
use Rattle.cedar_expr_model.specs.Tree.{Tree, lit, set_literal, SlotId, principal, resource, principal_slot, resource_slot}
use Rattle.cedar_expr_model.specs.Value.{truth, entity}
use Rattle.cedar_store_model.specs.Policy.{Policy, ActionScope, any_action, exactly_action, inside_actions, scope_tree, action_tree, body_tree, condition}

conjoined : (a b : Tree) → slots (conjunction a b) ≡ slots a ++ slots b
conjoined (lit (truth x)) (lit (truth y)) = refl
conjoined a b = filter_map-append slot_here (subexpressions a) (subexpressions b)

uids_have_none : (us : List Uid) → slots (set_literal (trees (map (λ u. lit (entity u)) us))) ≡ []
uids_have_none [] = refl
uids_have_none (u ∷ us) = uids_have_none us

actions_have_none : (c : ActionScope) → slots (action_tree c) ≡ []
actions_have_none any_action = refl
actions_have_none (exactly_action u) = refl
actions_have_none (inside_actions us) = uids_have_none us

abbrev of_principal : Policy → List SlotId
of_principal p = slots (scope_tree principal principal_slot p.principal)

abbrev of_resource : Policy → List SlotId
of_resource p = slots (scope_tree resource resource_slot p.resource)

abbrev of_body : Policy → List SlotId
of_body p = slots (body_tree p.body)

condition_slots : (p : Policy) → slots (condition p) ≡ of_principal p ++ (of_resource p ++ of_body p)
condition_slots p =
    let r = scope_tree resource resource_slot p.resource in
    let rest = conjunction r (body_tree p.body) in
    conjoined (scope_tree principal principal_slot p.principal) (conjunction (action_tree p.action) rest)
    ∙ ap (λ ss. of_principal p ++ ss) (conjoined (action_tree p.action) rest ∙ (λ i. actions_have_none p.action i ++ conjoined r (body_tree p.body) i))

-- one after the other they are found
pub found_in_turn : (p : Policy) (none one two three : List SlotId) → none ≡ [] → one ≡ none ++ of_principal p → two ≡ one ++ of_resource p → three ≡ two ++ of_body p → three ≡ slots (condition p)
found_in_turn p none one two three n h j k =
    k ∙ ap (λ ss. ss ++ of_body p) (j ∙ ap (λ ss. ss ++ of_resource p) (h ∙ ap (λ ss. ss ++ of_principal p) n))
    ∙ append_assoc (of_principal p) (of_resource p) (of_body p) ∙ sym (condition_slots p)
