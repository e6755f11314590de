-- What the laws of conditions and answers say.
-- Rule: conditions; the answer; policies and templates (docs/RULES.md).
use Rattle.std.specs.Prelude.{◌≡◌, ◌↔◌, ◌||◌, List, Contains, Some, None, Bool, true, false}
use Rattle.std.specs.Bool.{Decides}
use Rattle.cedar_expr_model.specs.Name.{Text}
use Rattle.cedar_expr_model.specs.Uid.{Uid}
use Rattle.cedar_expr_model.specs.Value.{V, truth_value}
use Rattle.cedar_expr_model.specs.Tree.{Tree, SlotId, principal_slot, resource_slot, principal, resource}
use Rattle.cedar_store_model.specs.Outcome.{Res, val, err}
use Rattle.cedar_store_model.specs.World.{World, Found}
use Rattle.cedar_store_model.specs.Meaning.{Means}
use Rattle.cedar_store_model.specs.Laws.{with_store}
use Rattle.cedar_store_model.specs.Looks.{Looks}
use Rattle.cedar_store_model.specs.OfLaws.Extends.{Extends}
use Rattle.cedar_store_model.specs.Policy.{Policy, Effect, SlotBindings, permit, forbid, Target, named, own_slot, Scope, any, exactly, inside, of_kind, of_kind_inside, scope_tree, action_tree, body_tree, condition, has_slot, tree_uses}
use Rattle.cedar_store_model.specs.PolicySet.{PolicySet, LinkFault, has_link_fault, link, linked, template_of, with_policy, add_template, add_policy}
use Rattle.cedar_store_model.specs.OfLaws.Distinct.{has_distinct_ids}
use Rattle.cedar_store_model.specs.Answer.{Decision, allow, deny, PolicyError, with_slots, PolicyMeans, policy_outcome, IsSatisfied, satisfied, decision_of, reasons_of, errors_of, answer_of}

-- a policy means what its condition does: that is a truth value or an error
abbrev pub PoliciesMeanTruth : Type 0
PoliciesMeanTruth = (w : World) (p : Policy) (r : Res V) → PolicyMeans w p r ↔ Means (with_slots w p.bindings) (condition p) r

-- a policy means an outcome exactly where the function gives it
abbrev pub PolicyMeaningIsAFunction : Type 0
PolicyMeaningIsAFunction = (w : World) (p : Policy) (r : Res V) → PolicyMeans w p r ↔ (policy_outcome w p ≡ Some r)

-- the test of satisfaction decides it
abbrev pub SatisfactionDecides : Type 0
SatisfactionDecides = (w : World) (p : Policy) → Decides (satisfied w p) (IsSatisfied w p)

-- what is known to be satisfied is satisfied where more is known
abbrev pub SatisfactionIsKept : Type 0
SatisfactionIsKept = (k w : World) → Extends k w → (p : Policy) → IsSatisfied k p → IsSatisfied w p

-- the expression means true
abbrev pub Holds : World → Tree → Type 0
Holds w t = Means w t (val (truth_value true))

-- a policy is satisfied exactly where the parts of its scope and its body mean true
abbrev pub SatisfiedByParts : Type 0
SatisfiedByParts = (w : World) (p : Policy) → let u = with_slots w p.bindings in
    IsSatisfied w p ↔ (Holds u (scope_tree principal principal_slot p.principal) × Holds u (action_tree p.action) × Holds u (scope_tree resource resource_slot p.resource) × Holds u (body_tree p.body))

-- some permit is satisfied
abbrev pub HasPermit : World → List Policy → Type 0
HasPermit w ps = (p : Policy) × Contains ps p × (p.effect ≡ permit) × IsSatisfied w p

-- no forbid is satisfied
abbrev pub HasNoForbid : World → List Policy → Type 0
HasNoForbid w ps = (p : Policy) → Contains ps p → p.effect ≡ forbid → IsSatisfied w p → ⊥

-- Allow is decided exactly where a permit and no forbid is satisfied
abbrev pub AllowIsEarned : Type 0
AllowIsEarned = (w : World) (ps : List Policy) → (decision_of w ps ≡ allow) ↔ (HasPermit w ps × HasNoForbid w ps)

-- the effect that a decision rests on
abbrev pub deciding : Decision → Effect
deciding allow = permit
deciding deny = forbid

-- the reasons are the ids of the satisfied policies of the effect that decided
abbrev pub ReasonsAreThose : Type 0
ReasonsAreThose = (w : World) (ps : List Policy) (id : Text) → Contains (reasons_of w ps) id
    ↔ ((p : Policy) × Contains ps p × (p.effect ≡ deciding (decision_of w ps)) × IsSatisfied w p × (p.id ≡ id))

-- the errors are those of the policies whose condition errs
abbrev pub ErrorsAreThose : Type 0
ErrorsAreThose = (w : World) (ps : List Policy) (e : PolicyError) → Contains (errors_of w ps) e
    ↔ ((p : Policy) × Contains ps p × (p.id ≡ e.id) × Means (with_slots w p.bindings) (condition p) (err e.fault))

-- the lists hold the same policies
abbrev pub SameMembers : {A : Type 0} → List A → List A → Type 0
SameMembers {A} xs ys = (x : A) → Contains xs x ↔ Contains ys x

-- lists of the same policies give the same decision, reasons and errors, but for their order
abbrev pub OrderIsFree : Type 0
OrderIsFree = (w : World) (ps qs : List Policy) → SameMembers ps qs
    → (decision_of w ps ≡ decision_of w qs) × SameMembers (reasons_of w ps) (reasons_of w qs) × SameMembers (errors_of w ps) (errors_of w qs)

-- a store that answers alike for what the conditions look up gives the same answer
abbrev pub OnlyLookupsAnswer : Type 0
OnlyLookupsAnswer = (w : World) (store : Uid → Found V) (ps : List Policy)
    → ((p : Policy) → Contains ps p → (u : Uid) → Looks (with_slots w p.bindings) (condition p) u → store u ≡ w.store u)
    → answer_of (with_store w store) ps ≡ answer_of w ps

-- the target is the slot
abbrev pub is_own_slot : Target → Bool
is_own_slot (named u) = false
is_own_slot own_slot = true

-- the part of the scope has its slot
abbrev pub scope_has_slot : Scope → Bool
scope_has_slot any = false
scope_has_slot (exactly t) = is_own_slot t
scope_has_slot (inside t) = is_own_slot t
scope_has_slot (of_kind n) = false
scope_has_slot (of_kind_inside n t) = is_own_slot t

-- the slots that the scope of a policy has
abbrev pub scope_uses : Policy → SlotId → Bool
scope_uses p principal_slot = scope_has_slot p.principal
scope_uses p resource_slot = scope_has_slot p.resource

-- the slots of a policy are those of its scope and those of its body
abbrev pub SlotsOfConditions : Type 0
SlotsOfConditions = (p : Policy) (s : SlotId) → has_slot p s ≡ (scope_uses p s || tree_uses (body_tree p.body) s)

-- linking refuses exactly where one of its faults is there, and else puts the template's policy at the end
abbrev pub LinkingIsExact : Type 0
LinkingIsExact = (s : PolicySet) (template id : Text) (b : SlotBindings) → ((link s template id b ≡ None) ↔ ((f : LinkFault) × (has_link_fault s template id b f ≡ true)))
    × ((r : PolicySet) → link s template id b ≡ Some r → (t : Policy) × (template_of template s ≡ Some t) × (r ≡ with_policy s (linked t id b)))

-- adding and linking keep ids apart
abbrev pub IdsStayDistinct : Type 0
IdsStayDistinct = (s r : PolicySet) → has_distinct_ids s ≡ true
    → ((p : Policy) → add_template s p ≡ Some r → has_distinct_ids r ≡ true)
    × ((p : Policy) → add_policy s p ≡ Some r → has_distinct_ids r ≡ true)
    × ((template id : Text) (b : SlotBindings) → link s template id b ≡ Some r → has_distinct_ids r ≡ true)
