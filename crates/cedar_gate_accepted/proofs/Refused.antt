-- A rule that is broken is a fault of the submission.
use Rattle.std.proofs.Common.{◌≡◌, Bool, true, false, ◌&&◌, refl, ap, sym, ◌∙◌}
use Rattle.std.specs.Prelude.{List, [], ◌∷◌, Contains, not}
use Rattle.cedar_expr_model.specs.Name.{Name}
use Rattle.cedar_schema_model.specs.BagLaws.{HasSchemaFault, SchemaFaultsDecide, WellFormedDecides}
use Rattle.cedar_schema_model.specs.Declarations.{Declarations}
use Rattle.cedar_schema_model.specs.WellFormed.{SchemaFault, ill_forms, has_schema_fault, IsWellFormed, well_formed, unresolved_external}
use Rattle.cedar_gate_model.specs.Acceptance.{Submission, Cause, schema, external, repeated_policy, unlinked_slot, slot_outside_scope, unknown_in_policy, nests_too_deep, unknown_entity_type, unknown_action, no_member, ill_typed, reaches_too_far, extension_types, IsCause, is_clear_of, asks_schema, has_schema, HasFault}
use Rattle.cedar_gate_model.specs.GateLaws.{admits}
use Rattle.cedar_gate_accepted.specs.Untyped.{is_clear_of_all, plain_causes, scope_causes, admits_untyped}

-- a cause that asks no schema
pub plain_fault : (s : Submission) (c : Cause) → IsCause c → asks_schema c ≡ false → is_clear_of c s ≡ false → HasFault c s
plain_fault s c k a h = (k, h, λ b. let f : false ≡ true = sym a ∙ b in absurd (cc))

-- one that does, where there is a schema
pub schema_fault : (s : Submission) (c : Cause) → IsCause c → has_schema s ≡ true → is_clear_of c s ≡ false → HasFault c s
schema_fault s c k w h = (k, h, λ b. w)

-- a fault of the declarations
pub declared_fault : SchemaFaultsDecide → (x : List Name) (d : Declarations) (g : SchemaFault) → Contains ill_forms g → HasSchemaFault x d g
    → (s : Submission) → s.declarations ≡ d → extension_types s.table ≡ x → HasFault (schema g) s
declared_fault decide x d g k h s e f =
    let there : has_schema_fault x d g ≡ true = (decide x d g).1 h in
    let here : has_schema_fault (extension_types s.table) s.declarations g ≡ true = (λ i. has_schema_fault (f i) (e i) g) ∙ there in
    plain_fault s (schema g) k refl (ap not here)

pub external_fault : (x : List Name) (d : Declarations) → has_schema_fault x d unresolved_external ≡ true → (s : Submission) → s.declarations ≡ d → extension_types s.table ≡ x → HasFault external s
external_fault x d h s e f =
    let here : has_schema_fault (extension_types s.table) s.declarations unresolved_external ≡ true = (λ i. has_schema_fault (f i) (e i) unresolved_external) ∙ h in
    plain_fault s external tt refl (ap not here)

-- the declarations of a submission
pub has_declared : WellFormedDecides → (x : List Name) (d : Declarations) → IsWellFormed x d → has_schema_fault x d unresolved_external ≡ false → (s : Submission) → s.declarations ≡ d → extension_types s.table ≡ x → has_schema s ≡ true
has_declared decide x d w h s e f =
    (λ i. well_formed (f i) (e i) && not (has_schema_fault (f i) (e i) unresolved_external))
    ∙ ap (λ b. b && not (has_schema_fault x d unresolved_external)) ((decide x d).1 w)
    ∙ ap not h

both_true : (a b : Bool) → (a && b) ≡ true → (a ≡ true) × (b ≡ true)
both_true true true h = (refl, refl)
both_true true false h = absurd (let f : false ≡ true = h in cc)
both_true false b h = absurd (let f : false ≡ true = h in cc)

true_both : (a b : Bool) → a ≡ true → b ≡ true → (a && b) ≡ true
true_both a b h k = ap (λ c. c && b) h ∙ k

-- all that is asked before typing, and then what is asked by typing
pub all_admitted : (s : Submission) → admits_untyped s ≡ true → is_clear_of ill_typed s ≡ true → is_clear_of reaches_too_far s ≡ true → admits s ≡ true
all_admitted s h t l =
    let outer = both_true (has_schema s) (is_clear_of_all plain_causes s && is_clear_of_all scope_causes s) h in
    let declared = both_true (well_formed (extension_types s.table) s.declarations) (is_clear_of external s) outer.0 in
    let rules = both_true (is_clear_of_all plain_causes s) (is_clear_of_all scope_causes s) outer.1 in
    let p0 = both_true (is_clear_of repeated_policy s) (is_clear_of_all (unlinked_slot ∷ slot_outside_scope ∷ unknown_in_policy ∷ nests_too_deep ∷ []) s) rules.0 in
    let p1 = both_true (is_clear_of unlinked_slot s) (is_clear_of_all (slot_outside_scope ∷ unknown_in_policy ∷ nests_too_deep ∷ []) s) p0.1 in
    let p2 = both_true (is_clear_of slot_outside_scope s) (is_clear_of_all (unknown_in_policy ∷ nests_too_deep ∷ []) s) p1.1 in
    let p3 = both_true (is_clear_of unknown_in_policy s) (is_clear_of_all (nests_too_deep ∷ []) s) p2.1 in
    let p4 = both_true (is_clear_of nests_too_deep s) true p3.1 in
    let s0 = both_true (is_clear_of unknown_entity_type s) (is_clear_of_all (unknown_action ∷ no_member ∷ []) s) rules.1 in
    let s1 = both_true (is_clear_of unknown_action s) (is_clear_of_all (no_member ∷ []) s) s0.1 in
    let s2 = both_true (is_clear_of no_member s) true s1.1 in
    true_both (well_formed (extension_types s.table) s.declarations) _ declared.0
    (true_both (is_clear_of external s) _ declared.1
    (true_both (is_clear_of repeated_policy s) _ p0.0
    (true_both (is_clear_of unlinked_slot s) _ p1.0
    (true_both (is_clear_of slot_outside_scope s) _ p2.0
    (true_both (is_clear_of unknown_in_policy s) _ p3.0
    (true_both (is_clear_of nests_too_deep s) _ p4.0
    (true_both (is_clear_of unknown_entity_type s) _ s0.0
    (true_both (is_clear_of unknown_action s) _ s1.0
    (true_both (is_clear_of no_member s) _ s2.0
    (true_both (is_clear_of ill_typed s) _ t (true_both (is_clear_of reaches_too_far s) true l refl)))))))))))
