-- The test of a submission decides whether it is accepted, and what its clauses say.
use Rattle.std.proofs.Common.{◌≡◌, ◌↔◌, ◌≤◌, ℕ, Bool, true, false, ◌&&◌, ◌||◌, not, List, [], ◌∷◌, refl, subst, arith, nat_le, is_some}
use Rattle.std.specs.Prelude.{Contains}
use Rattle.std.specs.Bool.{Decides}
use Rattle.std.specs.Str.{bytes_eq}
use Rattle.std.specs.List.{list_all, filter}
use Rattle.std.proofs.lemmas.Bool.{leb-true, le-leb}
use Rattle.std.proofs.lemmas.Slice.Eq.{bytes_eq-Decides}
use Rattle.cedar_expr_model.specs.Name.{Text}
use Rattle.cedar_expr_model.specs.Tree.{SlotId, principal_slot, resource_slot, nesting}
use Rattle.cedar_expr_model.specs.Unknowns.{has_unknown}
use Rattle.cedar_expr_model.proofs.Lists.{both_hold, hold_both, contains_head, contains_tail, contains_none, filter_has, filter_only, all_each, all_from, map_has, map_from}
use Rattle.cedar_store_model.specs.Policy.{Policy, binding_of, body_tree, condition, tree_uses, has_slot, all_slots}
use Rattle.cedar_store_model.specs.Answer.{ids}
use Rattle.cedar_schema_model.specs.WellFormed.{ill_forms, unresolved_external, has_schema_fault, well_formed}
use Rattle.cedar_schema_model.proofs.Decls.Faults.{repeated-Decides, schema_fault-Decides, no_schema_fault, well_formed-Decides}
use Rattle.cedar_typechecker_model.specs.ScopeRules.{names_known_types, names_known_actions, names_known_members}
use Rattle.cedar_typechecker_model.specs.Verdicts.{RequestType, passes, IsImpossible, impossible, IsIrrelevant, irrelevant_for, policy_violations}
use Rattle.cedar_schema_model.specs.Types.{strict}
use Rattle.cedar_typechecker_model.proofs.Verdicts.{passes-Decides, impossible-Decides, irrelevant-Decides}
use Rattle.cedar_typechecker_model.proofs.Naming.{known_types-Decides, known_actions-Decides, known_members-Decides}
use Rattle.cedar_expr_model.specs.Lists.{is_nil}
use Rattle.cedar_gate_model.specs.Acceptance.{Submission, Cause, schema, external, repeated_policy, unlinked_slot, slot_outside_scope, unknown_in_policy, nests_too_deep, unknown_entity_type, unknown_action, no_member, ill_typed, reaches_too_far, extension_types, schema_in, is_linked, keeps_slots_in_scope, is_clear_of, IsCause, IsAccepted, HasFault, warnings_of, policies_for}
use Rattle.cedar_gate_model.specs.GateLaws.{IsGoodPolicy, FitsSchema, IsGood, policy_causes, admits}

-- the causes that aren't faults of declarations
is_of_policies : Cause → Bool
is_of_policies (schema f) = false
is_of_policies c = true

is_cause : (c : Cause) → is_of_policies c ≡ true → IsCause c
unfolding is_of_policies
is_cause (schema f) e = cc
is_cause external e = tt
is_cause repeated_policy e = tt
is_cause unlinked_slot e = tt
is_cause slot_outside_scope e = tt
is_cause unknown_in_policy e = tt
is_cause nests_too_deep e = tt
is_cause unknown_entity_type e = tt
is_cause unknown_action e = tt
is_cause no_member e = tt
is_cause ill_typed e = tt
is_cause reaches_too_far e = tt

all_of_policies : list_all is_of_policies policy_causes ≡ true
unfolding is_of_policies
all_of_policies = refl

among_is_cause : (c : Cause) → Contains policy_causes c → IsCause c
among_is_cause c k = is_cause c (all_each is_of_policies policy_causes all_of_policies c k)

listed : (c : Cause) → is_of_policies c ≡ true → Contains policy_causes c
unfolding is_of_policies
listed (schema f) e = cc
listed external e = (0, omega arith, refl)
listed repeated_policy e = (1, omega arith, refl)
listed unlinked_slot e = (2, omega arith, refl)
listed slot_outside_scope e = (3, omega arith, refl)
listed unknown_in_policy e = (4, omega arith, refl)
listed nests_too_deep e = (5, omega arith, refl)
listed unknown_entity_type e = (6, omega arith, refl)
listed unknown_action e = (7, omega arith, refl)
listed no_member e = (8, omega arith, refl)
listed ill_typed e = (9, omega arith, refl)
listed reaches_too_far e = (10, omega arith, refl)

pub accepted_admits : (s : Submission) → IsAccepted s → admits s ≡ true
accepted_admits s h =
    hold_both (well_formed (extension_types s.table) s.declarations) _
    (all_from (λ f. not (has_schema_fault (extension_types s.table) s.declarations f)) ill_forms (λ f k. h (schema f) k))
    (all_from (λ c. is_clear_of c s) policy_causes (λ c k. h c (among_is_cause c k)))

clear_of_policies : (s : Submission) → admits s ≡ true → (c : Cause) → is_of_policies c ≡ true → is_clear_of c s ≡ true
clear_of_policies s h c e =
    all_each (λ c. is_clear_of c s) policy_causes (both_hold (well_formed (extension_types s.table) s.declarations) (list_all (λ c. is_clear_of c s) policy_causes) h).1 c (listed c e)

pub admitted_accepted : (s : Submission) → admits s ≡ true → IsAccepted s
unfolding is_of_policies
admitted_accepted s h c k = by_kind c k
  where
    by_kind : (c : Cause) → IsCause c → is_clear_of c s ≡ true
    by_kind (schema f) k = all_each (λ f. not (has_schema_fault (extension_types s.table) s.declarations f)) ill_forms (both_hold (well_formed (extension_types s.table) s.declarations) (list_all (λ c. is_clear_of c s) policy_causes) h).0 f k
    by_kind external k = clear_of_policies s h external refl
    by_kind repeated_policy k = clear_of_policies s h repeated_policy refl
    by_kind unlinked_slot k = clear_of_policies s h unlinked_slot refl
    by_kind slot_outside_scope k = clear_of_policies s h slot_outside_scope refl
    by_kind unknown_in_policy k = clear_of_policies s h unknown_in_policy refl
    by_kind nests_too_deep k = clear_of_policies s h nests_too_deep refl
    by_kind unknown_entity_type k = clear_of_policies s h unknown_entity_type refl
    by_kind unknown_action k = clear_of_policies s h unknown_action refl
    by_kind no_member k = clear_of_policies s h no_member refl
    by_kind ill_typed k = clear_of_policies s h ill_typed refl
    by_kind reaches_too_far k = clear_of_policies s h reaches_too_far refl

pub admits-Decides : (s : Submission) → Decides (admits s) (IsAccepted s)
admits-Decides s = (admitted_accepted s, accepted_admits s)

pub faults_exclude : (c : Cause) (s : Submission) → HasFault c s → IsAccepted s → ⊥
faults_exclude c s h a = let e = a c h.0 in let f = h.1 in cc

-- where not all pass, one fails
one_fails : {X : Type 0} (p : X → Bool) (xs : List X) → list_all p xs ≡ false → (x : X) × Contains xs x × (p x ≡ false)
one_fails p [] h = cc
one_fails {X} p (x ∷ xs) h = go (one_fails p xs) (p x) refl h
  where
    go : (list_all p xs ≡ false → (y : X) × Contains xs y × (p y ≡ false)) → (t : Bool) → p x ≡ t → (t && list_all p xs) ≡ false → (y : X) × Contains (x ∷ xs) y × (p y ≡ false)
    go rest true e h = let r = rest h in (r.0, contains_tail x xs r.0 r.1, r.2)
    go rest false e h = (x, contains_head x xs, e)

abbrev Faulty : Submission → Type 0
Faulty s = (c : Cause) × HasFault c s

pub refusal_has_fault : (s : Submission) → admits s ≡ false → (c : Cause) × HasFault c s
refusal_has_fault s h = by_schema (well_formed (extension_types s.table) s.declarations) refl h
  where
    by_external : well_formed (extension_types s.table) s.declarations ≡ true → (t : Bool) → is_clear_of external s ≡ t → list_all (λ c. is_clear_of c s) policy_causes ≡ false → Faulty s
    by_external w false e k = (external, (tt, e, λ q. cc))
    by_external w true e k =
        let r = one_fails (λ c. is_clear_of c s) policy_causes k in
        (r.0, (among_is_cause r.0 r.1, r.2, λ q. hold_both (well_formed (extension_types s.table) s.declarations) (is_clear_of external s) w e))

    by_schema : (t : Bool) → well_formed (extension_types s.table) s.declarations ≡ t → (t && list_all (λ c. is_clear_of c s) policy_causes) ≡ false → Faulty s
    by_schema true w k = by_external w (is_clear_of external s) refl k
    by_schema false w k =
        let r = one_fails (λ f. not (has_schema_fault (extension_types s.table) s.declarations f)) ill_forms w in
        (schema r.0, (r.1, r.2, λ q. cc))

-- tests that are true, and tests that aren't
isnt : (b : Bool) → not b ≡ true → b ≡ false
isnt true e = cc
isnt false e = refl

is_not : (b : Bool) → b ≡ false → not b ≡ true
is_not true e = cc
is_not false e = refl

not_there : (b : Bool) (P : Type 0) → Decides b P → not b ≡ true → P → ⊥
not_there b P d e p = let f = d.1 p in let g = isnt b e in cc

there_not : (b : Bool) (P : Type 0) → Decides b P → (P → ⊥) → not b ≡ true
there_not true P d n = absurd (n (d.0 refl))
there_not false P d n = refl

one_of_both : (a b : Bool) → (not a || b) ≡ true → a ≡ true → b ≡ true
one_of_both true b h e = h
one_of_both false b h e = cc

not_or : (a b : Bool) → (a ≡ true → b ≡ true) → (not a || b) ≡ true
not_or true b h = h refl
not_or false b h = refl

slot_listed : (x : SlotId) → Contains all_slots x
slot_listed principal_slot = (0, omega arith, refl)
slot_listed resource_slot = (1, omega arith, refl)

nil_none : {A : Type 0} (xs : List A) → is_nil xs ≡ true → (x : A) → Contains xs x → ⊥
nil_none [] e x k = contains_none x k
nil_none (y ∷ ys) e x k = cc

none_nil : {A : Type 0} (xs : List A) → ((x : A) → Contains xs x → ⊥) → is_nil xs ≡ true
none_nil [] h = refl
none_nil (y ∷ ys) h = absurd (h y (contains_head y ys))

le_is : (m n : ℕ) → nat_le m n ≡ true → m ≤ n
le_is m n e = leb-true m n e

is_le : (m n : ℕ) → m ≤ n → nat_le m n ≡ true
is_le m n e = le-leb m n e

good_policy : (s : Submission) → IsAccepted s → (p : Policy) → Contains s.policies p → IsGoodPolicy s.limit p
good_policy s h p k = record {
  linked = λ x u. (one_of_both (has_slot p x) _ (all_each (λ x. not (has_slot p x) || is_some (binding_of p.bindings x)) all_slots (all_each is_linked s.policies (h unlinked_slot tt) p k) x (slot_listed x)) u);
  in_scope = λ x. isnt _ (all_each (λ x. not (tree_uses (body_tree p.body) x)) all_slots (all_each keeps_slots_in_scope s.policies (h slot_outside_scope tt) p k) x (slot_listed x));
  known = isnt _ (all_each (λ (p : Policy). not (has_unknown (condition p))) s.policies (h unknown_in_policy tt) p k);
  shallow = le_is (nesting (condition p)) s.limit (all_each (λ (p : Policy). nat_le (nesting (condition p)) s.limit) s.policies (h nests_too_deep tt) p k);
}

fits_schema : (s : Submission) → IsAccepted s → (p : Policy) → Contains s.policies p → FitsSchema s p
fits_schema s h p k = record {
  types = (known_types-Decides (schema_in s) p).0 (all_each (names_known_types (schema_in s)) s.policies (h unknown_entity_type tt) p k);
  actions = (known_actions-Decides (schema_in s) p).0 (all_each (names_known_actions (schema_in s)) s.policies (h unknown_action tt) p k);
  members = (known_members-Decides (schema_in s) p).0 (all_each (names_known_members (schema_in s)) s.policies (h no_member tt) p k);
  typed = (passes-Decides strict (schema_in s) s.table p).0 (all_each (passes (schema_in s) s.table) s.policies (h ill_typed tt) p k);
  near_enough = nil_none (policy_violations s.level (schema_in s) s.table p) (all_each (λ p. is_nil (policy_violations s.level (schema_in s) s.table p)) s.policies (h reaches_too_far tt) p k);
}

pub accepted_good : (s : Submission) → IsAccepted s → IsGood s
accepted_good s h = record {
  well_formed = (well_formed-Decides (extension_types s.table) s.declarations).0 (all_from (λ f. not (has_schema_fault (extension_types s.table) s.declarations f)) ill_forms (λ f k. h (schema f) k));
  resolved = not_there _ _ (schema_fault-Decides (extension_types s.table) s.declarations unresolved_external) (h external tt);
  distinct = not_there _ _ (repeated-Decides bytes_eq bytes_eq-Decides (ids s.policies)) (h repeated_policy tt);
  each = good_policy s h;
  fits = fits_schema s h;
}

good_accepted : (s : Submission) → IsGood s → IsAccepted s
good_accepted s g c k = by_kind c k
  where
    by_kind : (c : Cause) → IsCause c → is_clear_of c s ≡ true
    by_kind (schema f) k = there_not _ _ (schema_fault-Decides (extension_types s.table) s.declarations f) (no_schema_fault (extension_types s.table) s.declarations g.well_formed f k)
    by_kind external k = there_not _ _ (schema_fault-Decides (extension_types s.table) s.declarations unresolved_external) g.resolved
    by_kind repeated_policy k = there_not _ _ (repeated-Decides bytes_eq bytes_eq-Decides (ids s.policies)) g.distinct
    by_kind unlinked_slot k = all_from is_linked s.policies (λ p m. all_from (λ x. not (has_slot p x) || is_some (binding_of p.bindings x)) all_slots (λ x n. not_or (has_slot p x) _ (λ u. (g.each p m).linked x u)))
    by_kind slot_outside_scope k = all_from keeps_slots_in_scope s.policies (λ p m. all_from (λ x. not (tree_uses (body_tree p.body) x)) all_slots (λ x n. is_not _ ((g.each p m).in_scope x)))
    by_kind unknown_in_policy k = all_from (λ (p : Policy). not (has_unknown (condition p))) s.policies (λ p m. is_not _ (g.each p m).known)
    by_kind nests_too_deep k = all_from (λ (p : Policy). nat_le (nesting (condition p)) s.limit) s.policies (λ p m. is_le _ _ (g.each p m).shallow)
    by_kind unknown_entity_type k = all_from (names_known_types (schema_in s)) s.policies (λ p m. (known_types-Decides (schema_in s) p).1 (g.fits p m).types)
    by_kind unknown_action k = all_from (names_known_actions (schema_in s)) s.policies (λ p m. (known_actions-Decides (schema_in s) p).1 (g.fits p m).actions)
    by_kind no_member k = all_from (names_known_members (schema_in s)) s.policies (λ p m. (known_members-Decides (schema_in s) p).1 (g.fits p m).members)
    by_kind ill_typed k = all_from (passes (schema_in s) s.table) s.policies (λ p m. (passes-Decides strict (schema_in s) s.table p).1 (g.fits p m).typed)
    by_kind reaches_too_far k = all_from (λ p. is_nil (policy_violations s.level (schema_in s) s.table p)) s.policies (λ p m. none_nil _ (g.fits p m).near_enough)

pub acceptance_reads : (s : Submission) → IsAccepted s ↔ IsGood s
acceptance_reads s = (accepted_good s, good_accepted s)

-- the ids of the policies that pass a test
ids_only : (test : Policy → Bool) (ps : List Policy) (id : Text) → Contains (ids (filter test ps)) id → (p : Policy) × Contains ps p × (test p ≡ true) × (p.id ≡ id)
ids_only test ps id k =
    let r = map_from (λ (p : Policy). p.id) (filter test ps) id k in
    let m = filter_only test ps r.0 r.1 in
    (r.0, m.0, m.1, r.2)

ids_have : (test : Policy → Bool) (ps : List Policy) (p : Policy) → Contains ps p → test p ≡ true → Contains (ids (filter test ps)) p.id
ids_have test ps p k e = map_has (λ (p : Policy). p.id) (filter test ps) p (filter_has test ps p k e)

moved : (xs : List Text) (a b : Text) → a ≡ b → Contains xs a → Contains xs b
moved xs a b e k = subst (Contains xs) e k

pub warned_are_impossible : (s : Submission) (id : Text) → Contains (warnings_of s) id ↔ ((p : Policy) × Contains s.policies p × IsImpossible (schema_in s) s.table p × (p.id ≡ id))
warned_are_impossible s id = (
  λ k. let r = ids_only (impossible (schema_in s) s.table) s.policies id k in (r.0, r.1, (impossible-Decides (schema_in s) s.table r.0).0 r.2, r.3),
  λ r. moved (warnings_of s) (r.0).id id r.3 (ids_have (impossible (schema_in s) s.table) s.policies r.0 r.1 ((impossible-Decides (schema_in s) s.table r.0).1 r.2)),
)

pub given_are_relevant : (s : Submission) (r : RequestType) (id : Text) → Contains (policies_for s r) id ↔ ((p : Policy) × Contains s.policies p × (IsIrrelevant (schema_in s) s.table r p → ⊥) × (p.id ≡ id))
given_are_relevant s t id = (
  λ k. let r = ids_only (λ p. not (irrelevant_for (schema_in s) s.table t p)) s.policies id k in (r.0, r.1, not_there _ _ (irrelevant-Decides (schema_in s) s.table t r.0) r.2, r.3),
  λ r. moved (policies_for s t) (r.0).id id r.3 (ids_have (λ p. not (irrelevant_for (schema_in s) s.table t p)) s.policies r.0 r.1 (there_not _ _ (irrelevant-Decides (schema_in s) s.table t r.0) r.2)),
)

pub impossible_is_irrelevant : (s : Submission) (r : RequestType) (p : Policy) → IsImpossible (schema_in s) s.table p → IsIrrelevant (schema_in s) s.table r p
impossible_is_irrelevant s r p h e k f q = h e k f
