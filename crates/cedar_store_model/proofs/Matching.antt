-- The parts of a scope mean true exactly where they match.
use Rattle.std.proofs.Common.{◌≡◌, ◌↔◌, List, [], ◌∷◌, Bool, true, ◌||◌, map, refl, sym, ap, ◌∙◌, subst, ◌⊎◌, inl, inr}
use Rattle.std.specs.Prelude.{Option, Some, None, Contains, option_map}
use Rattle.std.specs.Bool.{Decides}
use Rattle.std.specs.List.{list_any}
use Rattle.std.specs.Ordering.{is_eq, match_ordering}
use Rattle.std.specs.declared.cmp.Ordering.{Ordering}
use Rattle.std.specs.declared.cmp.Ordering.TheVariants.{Less, Equal, Greater}
use Rattle.std.proofs.lemmas.Bool.Decides.{Decides-or}
use Rattle.cedar_expr_model.specs.Name.{Name}
use Rattle.cedar_expr_model.specs.Uid.{Uid, uid_eq}
use Rattle.cedar_expr_model.specs.Value.{V, prim, entity, Vs, no_values, value, values_list}
use Rattle.cedar_expr_model.specs.Canonical.{inserted, members_made, set_made}
use Rattle.cedar_expr_model.specs.Tree.{var, binary, BinaryOp, equal, is_in, Var, principal, action, resource, SlotId, principal_slot, resource_slot, is_type}
use Rattle.cedar_expr_model.proofs.Equality.{name_eq-Decides, uid_eq-Decides}
use Rattle.cedar_expr_model.proofs.Lists.{contains_head, contains_tail, contains_cases, contains_none, any-Decides, found-Decides}
use Rattle.cedar_store_model.specs.Outcome.{Res, val, bind}
use Rattle.cedar_store_model.specs.World.{World, Entity, Found, held, missing, not_loaded}
use Rattle.cedar_store_model.specs.Operators.{of_type}
use Rattle.cedar_store_model.specs.Reads.{uid_of, is_in_some, found_in}
use Rattle.cedar_expr_model.specs.Lists.{all_given}
use Rattle.cedar_store_model.specs.Meaning.{variable, slot_value, combined, outcome_of, outcomes_of}
use Rattle.cedar_store_model.specs.Knowledge.{IsSettled, IsWhole}
use Rattle.cedar_store_model.specs.Policy.{Policy, Target, named, own_slot, Scope, any, exactly, inside, of_kind, of_kind_inside, ActionScope, any_action, exactly_action, inside_actions, target_tree, scope_tree, action_tree, body_tree}
use Rattle.cedar_store_model.specs.Answer.{with_slots, IsSatisfied, is_true}
use Rattle.cedar_expr_model.proofs.ValueOrder.{values_decide}
use Rattle.cedar_expr_model.specs.Order.{uid_order}
use Rattle.cedar_store_model.specs.AnswerLaws.{Holds}
use Rattle.cedar_store_model.proofs.Conditions.{holds_in, holds-Decides, conjunction-Decides, parts-Decides}
use Rattle.cedar_store_model.proofs.Named.{known_uid, uid_trees}
use Rattle.cedar_store_model.specs.StoreLaws.{IsIn, target_uid, IsInTarget, Matches, MatchesAction, AsksFor}

decides_by : {P : Type 0} (a b : Bool) → a ≡ b → Decides b P → Decides a P
decides_by a b e d = (λ h. d.0 (sym e ∙ h), λ h. e ∙ d.1 h)

decides_as : {P Q : Type 0} (b : Bool) → (P → Q) → (Q → P) → Decides b P → Decides b Q
decides_as b f g d = (λ h. f (d.0 h), λ h. d.1 (g h))

-- the order of uids finds no difference exactly between equal ones
uid_order-Decides : (u v : Uid) → Decides (is_eq (uid_order u v)) (u ≡ v)
uid_order-Decides u v = decides_as _ (λ h. cc) (λ h. cc) (values_decide (prim (entity u)) (prim (entity v)))

-- equality with what a target names
equal_at : (w : World) (u : Uid) (o : Option Uid) → Decides (is_true (bind (Some (slot_value o)) (combined w equal (prim (entity u))))) (o ≡ Some u)
equal_at w u None = (λ h. cc, λ h. cc)
equal_at w u (Some v) = decides_as _ (λ h. cc) (λ h. cc) (uid_order-Decides u v)

-- the uid is one of these or has one of them among the ancestors
among-Decides : (u : Uid) (ancestors us : List Uid) → Decides (list_any (λ v. uid_eq u v || list_any (uid_eq v) ancestors) us) ((v : Uid) × Contains us v × ((u ≡ v) ⊎ Contains ancestors v))
among-Decides u ancestors us =
    any-Decides (λ v. uid_eq u v || list_any (uid_eq v) ancestors) (λ v. (u ≡ v) ⊎ Contains ancestors v)
    (λ v. Decides-or _ _ (uid_eq-Decides u v) (found-Decides uid_eq uid_eq-Decides v ancestors)) us

-- what `in` answers where the right side is these uids
abbrev in_these : Uid → List Uid → Found V → Option (Res V)
in_these u us (held e) = Some (is_in_some e.ancestors u (Some us))
in_these u us missing = Some (is_in_some [] u (Some us))
in_these u us not_loaded = None

held_in : (w : World) (u : Uid) (e : Entity V) → w.store u ≡ held e → (v : Uid) → IsIn w u v → (u ≡ v) ⊎ Contains e.ancestors v
held_in w u e q v (inl h) = inl h
held_in w u e q v (inr (d, p, h)) =
    let same : held d ≡ held e = sym p ∙ q in
    let s : d ≡ e = cc in
    inr (subst (λ (x : Entity V). Contains x.ancestors v) s h)

missing_in : (w : World) (u : Uid) → w.store u ≡ missing → (v : Uid) → IsIn w u v → (u ≡ v) ⊎ Contains {X = Uid} [] v
missing_in w u q v (inl h) = inl h
missing_in w u q v (inr (d, p, h)) = let same : held d ≡ missing = sym p ∙ q in cc

in_held : (w : World) (u : Uid) (e : Entity V) → w.store u ≡ held e → (v : Uid) → (u ≡ v) ⊎ Contains e.ancestors v → IsIn w u v
in_held w u e q v (inl h) = inl h
in_held w u e q v (inr h) = inr (e, q, h)

in_missing : (w : World) (u v : Uid) → (u ≡ v) ⊎ Contains {X = Uid} [] v → IsIn w u v
in_missing w u v (inl h) = inl h
in_missing w u v (inr h) = absurd (contains_none v h)

in-Decides : (w : World) (u : Uid) (us : List Uid) (f : Found V) → w.store u ≡ f → IsSettled f → Decides (is_true (in_these u us f)) ((v : Uid) × Contains us v × IsIn w u v)
in-Decides w u us (held e) q h = decides_as _ (λ k. (k.0, k.1, in_held w u e q k.0 k.2)) (λ k. (k.0, k.1, held_in w u e q k.0 k.2)) (among-Decides u e.ancestors us)
in-Decides w u us missing q h = decides_as _ (λ k. (k.0, k.1, in_missing w u k.0 k.2)) (λ k. (k.0, k.1, missing_in w u q k.0 k.2)) (among-Decides u [] us)
in-Decides w u us not_loaded q h = absurd h

one_in : (u v : Uid) (f : Found V) → found_in u (prim (entity v)) f ≡ in_these u (v ∷ []) f
one_in u v (held e) = refl
one_in u v missing = refl
one_in u v not_loaded = refl

in_at : (w : World) (u : Uid) (o : Option Uid) → IsSettled (w.store u) → Decides (is_true (bind (Some (slot_value o)) (combined w is_in (prim (entity u))))) (IsInTarget w o u)
in_at w u None h = (λ k. cc, λ k. let e = k.1 in cc)
in_at w u (Some v) h =
    decides_by _ _ (ap is_true (one_in u v (w.store u)))
    (decides_as _
    (λ k. (k.0, contains_cases (Some v ≡ Some k.0) v [] k.0 k.1 (λ e. ap Some e) (λ m. absurd (contains_none k.0 m)), k.2))
    (λ k. (k.0, (let e = k.1 in let s : v ≡ k.0 = cc in subst (λ x. Contains (x ∷ []) k.0) (sym s) (contains_head k.0 [])), k.2))
    (in-Decides w u (v ∷ []) (w.store u) refl h))

target_outcome : (w : World) (s : SlotId) (t : Target) → outcome_of w (target_tree s t) ≡ Some (slot_value (target_uid (w.slots s) t))
target_outcome w s (named u) = refl
target_outcome w s own_slot = refl

operator_outcome : (w : World) (x : Var) (u : Uid) → variable w x ≡ Some (val (prim (entity u))) → (s : SlotId) (o : BinaryOp) (t : Target) → outcome_of w (binary o (var x) (target_tree s t)) ≡ bind (Some (slot_value (target_uid (w.slots s) t))) (combined w o (prim (entity u)))
operator_outcome w x u e s o t = λ i. bind (e i) (λ v. bind (target_outcome w s t i) (combined w o v))

kind-Decides : (w : World) (x : Var) (u : Uid) → variable w x ≡ Some (val (prim (entity u))) → (n : Name) → Decides (holds_in w (is_type (var x) n)) (u.kind ≡ n)
kind-Decides w x u e n = decides_by _ _ (λ i. is_true (bind (e i) (λ v. Some (of_type n v)))) (name_eq-Decides u.kind n)

inside-Decides : (w : World) (x : Var) (u : Uid) → variable w x ≡ Some (val (prim (entity u))) → IsSettled (w.store u) → (s : SlotId) (t : Target) → Decides (holds_in w (binary is_in (var x) (target_tree s t))) (IsInTarget w (target_uid (w.slots s) t) u)
inside-Decides w x u e h s t = decides_by _ _ (ap is_true (operator_outcome w x u e s is_in t)) (in_at w u (target_uid (w.slots s) t) h)

scope-Decides : (w : World) (x : Var) (u : Uid) → variable w x ≡ Some (val (prim (entity u))) → IsSettled (w.store u) → (s : SlotId) (c : Scope) → Decides (holds_in w (scope_tree x s c)) (Matches w (w.slots s) c u)
scope-Decides w x u e h s any = (λ _. tt, λ _. refl)
scope-Decides w x u e h s (exactly t) = decides_by _ _ (ap is_true (operator_outcome w x u e s equal t)) (equal_at w u (target_uid (w.slots s) t))
scope-Decides w x u e h s (inside t) = inside-Decides w x u e h s t
scope-Decides w x u e h s (of_kind n) = kind-Decides w x u e n
scope-Decides w x u e h s (of_kind_inside n t) = conjunction-Decides w (is_type (var x) n) (binary is_in (var x) (target_tree s t)) _ _ (kind-Decides w x u e n) (inside-Decides w x u e h s t)

-- the set of some uids
abbrev uid_values : List Uid → Vs
uid_values [] = no_values
uid_values (u ∷ us) = value (prim (entity u)) (uid_values us)

abbrev uid_inserted : Uid → List Uid → List Uid
uid_inserted u [] = u ∷ []
uid_inserted u (v ∷ vs) = match_ordering (uid_order u v) (u ∷ v ∷ vs) (v ∷ vs) (v ∷ uid_inserted u vs)

abbrev uids_made : List Uid → List Uid
uids_made [] = []
uids_made (u ∷ us) = uid_inserted u (uids_made us)

abbrev as_values : List Uid → List V
as_values us = map (λ u. prim (entity u)) us

picked_values : (o : Ordering) (a b c : List Uid) → match_ordering o (uid_values a) (uid_values b) (uid_values c) ≡ uid_values (match_ordering o a b c)
picked_values Less a b c = refl
picked_values Equal a b c = refl
picked_values Greater a b c = refl

inserted_values : (u : Uid) (us : List Uid) → inserted (prim (entity u)) (uid_values us) ≡ uid_values (uid_inserted u us)
inserted_values u [] = refl
inserted_values u (v ∷ vs) =
    ap (λ x. match_ordering (uid_order u v) (uid_values (u ∷ v ∷ vs)) (uid_values (v ∷ vs)) (value (prim (entity v)) x)) (inserted_values u vs)
    ∙ picked_values (uid_order u v) (u ∷ v ∷ vs) (v ∷ vs) (v ∷ uid_inserted u vs)

made_values : (us : List Uid) → members_made (as_values us) ≡ uid_values (uids_made us)
made_values [] = refl
made_values (u ∷ us) = ap (inserted (prim (entity u))) (made_values us) ∙ inserted_values u (uids_made us)

values_among : (us : List Uid) → all_given uid_of (values_list (uid_values us)) ≡ Some us
values_among [] = refl
values_among (u ∷ us) = ap (option_map (λ vs. u ∷ vs)) (values_among us)

trees_outcome : (w : World) (us : List Uid) → outcomes_of w (uid_trees us) ≡ Some (val (as_values us))
trees_outcome w [] = refl
trees_outcome w (u ∷ us) = ap (λ o. bind o (λ vs. Some (val (prim (entity u) ∷ vs)))) (trees_outcome w us)

set_in : (u : Uid) (us : List Uid) (f : Found V) → found_in u (set_made (as_values us)) f ≡ in_these u (uids_made us) f
set_in u us (held e) = ap (λ o. Some (is_in_some e.ancestors u o)) (ap (λ vs. all_given uid_of (values_list vs)) (made_values us) ∙ values_among (uids_made us))
set_in u us missing = ap (λ o. Some (is_in_some [] u o)) (ap (λ vs. all_given uid_of (values_list vs)) (made_values us) ∙ values_among (uids_made us))
set_in u us not_loaded = refl

-- the set has the same members
inserted_from : (o : Ordering) (u v : Uid) (vs rest : List Uid) (x : Uid) → (Contains rest x → Contains (u ∷ vs) x) → Contains (match_ordering o (u ∷ v ∷ vs) (v ∷ vs) (v ∷ rest)) x → Contains (u ∷ v ∷ vs) x
inserted_from Less u v vs rest x f h = h
inserted_from Equal u v vs rest x f h = contains_tail u (v ∷ vs) x h
inserted_from Greater u v vs rest x f h =
    contains_cases (Contains (u ∷ v ∷ vs) x) v rest x h
    (λ e. contains_tail u (v ∷ vs) x (subst (λ y. Contains (y ∷ vs) x) (sym e) (contains_head x vs)))
    (λ k. contains_cases (Contains (u ∷ v ∷ vs) x) u vs x (f k) (λ e. subst (λ y. Contains (y ∷ v ∷ vs) x) (sym e) (contains_head x (v ∷ vs))) (λ m. contains_tail u (v ∷ vs) x (contains_tail v vs x m)))

from_inserted : (u : Uid) (us : List Uid) (x : Uid) → Contains (uid_inserted u us) x → Contains (u ∷ us) x
from_inserted u [] x h = h
from_inserted u (v ∷ vs) x h = inserted_from (uid_order u v) u v vs (uid_inserted u vs) x (from_inserted u vs x) h

from_made : (us : List Uid) (x : Uid) → Contains (uids_made us) x → Contains us x
from_made [] x h = h
from_made (u ∷ us) x h = contains_cases (Contains (u ∷ us) x) u (uids_made us) x (from_inserted u (uids_made us) x h) (λ e. subst (λ y. Contains (y ∷ us) x) (sym e) (contains_head x us)) (λ k. contains_tail u us x (from_made us x k))

inserted_has : (o : Ordering) (u v : Uid) (vs rest : List Uid) (x : Uid) → (is_eq o ≡ true → u ≡ v) → (Contains (u ∷ vs) x → Contains rest x) → Contains (u ∷ v ∷ vs) x → Contains (match_ordering o (u ∷ v ∷ vs) (v ∷ vs) (v ∷ rest)) x
inserted_has Less u v vs rest x same f h = h
inserted_has Equal u v vs rest x same f h = contains_cases (Contains (v ∷ vs) x) u (v ∷ vs) x h (λ e. subst (λ y. Contains (y ∷ vs) x) (sym e ∙ same refl) (contains_head x vs)) (λ k. k)
inserted_has Greater u v vs rest x same f h =
    contains_cases (Contains (v ∷ rest) x) u (v ∷ vs) x h
    (λ e. contains_tail v rest x (f (subst (λ y. Contains (y ∷ vs) x) (sym e) (contains_head x vs))))
    (λ k. contains_cases (Contains (v ∷ rest) x) v vs x k (λ e. subst (λ y. Contains (y ∷ rest) x) (sym e) (contains_head x rest)) (λ m. contains_tail v rest x (f (contains_tail u vs x m))))

has_inserted : (u : Uid) (us : List Uid) (x : Uid) → Contains (u ∷ us) x → Contains (uid_inserted u us) x
has_inserted u [] x h = h
has_inserted u (v ∷ vs) x h = inserted_has (uid_order u v) u v vs (uid_inserted u vs) x (uid_order-Decides u v).0 (has_inserted u vs x) h

has_made : (us : List Uid) (x : Uid) → Contains us x → Contains (uids_made us) x
has_made [] x h = h
has_made (u ∷ us) x h =
    has_inserted u (uids_made us) x
    (contains_cases (Contains (u ∷ uids_made us) x) u us x h (λ e. subst (λ y. Contains (y ∷ uids_made us) x) (sym e) (contains_head x (uids_made us))) (λ m. contains_tail u (uids_made us) x (has_made us x m)))

action-Decides : (w : World) (u : Uid) → variable w action ≡ Some (val (prim (entity u))) → IsSettled (w.store u) → (c : ActionScope) → Decides (holds_in w (action_tree c)) (MatchesAction w c u)
action-Decides w u e h any_action = (λ _. tt, λ _. refl)
action-Decides w u e h (exactly_action v) =
    decides_by _ _ (λ i. is_true (bind (e i) (λ x. combined w equal x (prim (entity v))))) (uid_order-Decides u v)
action-Decides w u e h (inside_actions us) =
    decides_by _ _ (ap is_true ((λ i. bind (e i) (λ x. bind (bind (trees_outcome w us i) (λ vs. Some (val (set_made vs)))) (combined w is_in x))) ∙ set_in u us (w.store u)))
    (decides_as _ (λ k. (k.0, from_made us k.0 k.1, k.2)) (λ k. (k.0, has_made us k.0 k.1, k.2)) (in-Decides w u (uids_made us) (w.store u) refl h))

variable_is : (o : Option Uid) (u : Uid) → o ≡ Some u → known_uid o ≡ Some (val (prim (entity u)))
variable_is o u e = ap known_uid e

pub satisfied_by_matching : (w : World) (p : Policy) (a b c : Uid) → IsWhole w → AsksFor w a b c → IsSatisfied w p ↔ (Matches w p.bindings.principal p.principal a × MatchesAction w p.action b × Matches w p.bindings.resource p.resource c × Holds (with_slots w p.bindings) (body_tree p.body))
satisfied_by_matching w p a b c h r =
    let u = with_slots w p.bindings in
    parts-Decides w p _ _ _ _
    (scope-Decides u principal a (variable_is w.principal a r.principal) (h.store a) principal_slot p.principal)
    (action-Decides u b (variable_is w.action b r.action) (h.store b) p.action)
    (scope-Decides u resource c (variable_is w.resource c r.resource) (h.store c) resource_slot p.resource)
    (holds-Decides u (body_tree p.body))
