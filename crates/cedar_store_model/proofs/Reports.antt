-- What the reasons and the errors of an answer are.
use Rattle.std.proofs.Common.{◌≡◌, ◌↔◌, List, [], ◌∷◌, not, ◌&&◌, refl, sym, ap, ◌∙◌, subst}
use Rattle.std.specs.Prelude.{Contains, Option, Some, None}
use Rattle.cedar_expr_model.specs.Name.{Text}
use Rattle.cedar_expr_model.specs.Value.{V}
use Rattle.cedar_expr_model.proofs.Lists.{both_hold, hold_both, contains_head, contains_none, contains_cases, filter_has, filter_only, map_has, map_from, flat_has, flat_from}
use Rattle.cedar_store_model.specs.Outcome.{Res, val, err}
use Rattle.cedar_store_model.specs.World.{World}
use Rattle.cedar_store_model.specs.Meaning.{Means}
use Rattle.cedar_store_model.specs.Policy.{Policy, Effect, permit, forbid, condition}
use Rattle.cedar_store_model.specs.Answer.{Decision, IsSatisfied, with_slots, policy_outcome, allow, deny, PolicyError, permits, satisfied, satisfied_permits, satisfied_forbids, decided, determining, error_of, decision_of, reasons_of, errors_of}
use Rattle.cedar_store_model.specs.AnswerLaws.{deciding, SameMembers}
use Rattle.cedar_store_model.proofs.Conditions.{satisfied-Decides, error_outcome, outcome_error}
use Rattle.cedar_store_model.proofs.Answers.{is_permit, is_forbid, allow_is_earned}

-- one of these policies, of this effect, is satisfied
abbrev pub IsSatisfiedAs : World → List Policy → Effect → Policy → Type 0
IsSatisfiedAs w ps e p = Contains ps p × (p.effect ≡ e) × IsSatisfied w p

permits_from : (w : World) (ps : List Policy) (p : Policy) → Contains (satisfied_permits w ps) p → IsSatisfiedAs w ps permit p
permits_from w ps p h =
    let k = filter_only (λ (q : Policy). permits q.effect && satisfied w q) ps p h in
    let b = both_hold (permits p.effect) (satisfied w p) k.1 in
    (k.0, is_permit p.effect b.0, (satisfied-Decides w p).0 b.1)

from_permits : (w : World) (ps : List Policy) (p : Policy) → IsSatisfiedAs w ps permit p → Contains (satisfied_permits w ps) p
from_permits w ps p h = filter_has (λ (q : Policy). permits q.effect && satisfied w q) ps p h.0 (hold_both (permits p.effect) (satisfied w p) (ap permits h.1) ((satisfied-Decides w p).1 h.2))

forbids_from : (w : World) (ps : List Policy) (p : Policy) → Contains (satisfied_forbids w ps) p → IsSatisfiedAs w ps forbid p
forbids_from w ps p h =
    let k = filter_only (λ (q : Policy). not (permits q.effect) && satisfied w q) ps p h in
    let b = both_hold (not (permits p.effect)) (satisfied w p) k.1 in
    (k.0, is_forbid p.effect b.0, (satisfied-Decides w p).0 b.1)

from_forbids : (w : World) (ps : List Policy) (p : Policy) → IsSatisfiedAs w ps forbid p → Contains (satisfied_forbids w ps) p
from_forbids w ps p h = filter_has (λ (q : Policy). not (permits q.effect) && satisfied w q) ps p h.0 (hold_both (not (permits p.effect)) (satisfied w p) (ap (λ (x : Effect). not (permits x)) h.1) ((satisfied-Decides w p).1 h.2))

-- the policies that determine the answer, by the decision
determined : (w : World) (all ps fs : List Policy) → ((p : Policy) → Contains ps p ↔ IsSatisfiedAs w all permit p) → ((p : Policy) → Contains fs p ↔ IsSatisfiedAs w all forbid p) → (p : Policy) → Contains (determining ps fs) p ↔ IsSatisfiedAs w all (deciding (decided ps fs)) p
determined w all [] [] f g p = g p
determined w all (q ∷ ps) [] f g p = f p
determined w all ps (x ∷ fs) f g p = g p

pub determining_are : (w : World) (ps : List Policy) (p : Policy) → Contains (determining (satisfied_permits w ps) (satisfied_forbids w ps)) p ↔ IsSatisfiedAs w ps (deciding (decision_of w ps)) p
determining_are w ps p = determined w ps (satisfied_permits w ps) (satisfied_forbids w ps) (λ q. (permits_from w ps q, from_permits w ps q)) (λ q. (forbids_from w ps q, from_forbids w ps q)) p

pub reasons_are_those : (w : World) (ps : List Policy) (id : Text) → Contains (reasons_of w ps) id ↔ ((p : Policy) × Contains ps p × (p.effect ≡ deciding (decision_of w ps)) × IsSatisfied w p × (p.id ≡ id))
reasons_are_those w ps id = (
  λ h. let r = map_from (λ (p : Policy). p.id) (determining (satisfied_permits w ps) (satisfied_forbids w ps)) id h in
      let k = (determining_are w ps r.0).0 r.1 in
      (r.0, k.0, k.1, k.2, r.2),
  λ h. subst (Contains (reasons_of w ps)) h.4 (map_has (λ (p : Policy). p.id) (determining (satisfied_permits w ps) (satisfied_forbids w ps)) h.0 ((determining_are w ps h.0).1 (h.1, h.2, h.3))),
)

error_there : (id : Text) (o : Option (Res V)) (e : PolicyError) → Contains (error_of id o) e → (id ≡ e.id) × (o ≡ Some (err e.fault))
error_there id (Some (err f)) e h =
    let one : PolicyError = record { id = id; fault = f } in
    contains_cases ((id ≡ e.id) × (Some (err f) ≡ Some (err e.fault))) one [] e h
    (λ q. (ap (λ (x : PolicyError). x.id) q, ap (λ (x : PolicyError). Some (err x.fault)) q)) (λ k. absurd (contains_none e k))
error_there id (Some (val v)) e h = absurd (contains_none e h)
error_there id None e h = absurd (contains_none e h)

there_error : (id : Text) (o : Option (Res V)) (e : PolicyError) → id ≡ e.id → o ≡ Some (err e.fault) → Contains (error_of id o) e
there_error id (Some (err f)) e p q =
    let one : PolicyError = record { id = id; fault = f } in
    let k : f ≡ e.fault = cc in
    let same : one ≡ e = λ i. record { id = p i; fault = k i } in
    subst (λ (x : PolicyError). Contains (one ∷ []) x) same (contains_head one [])
there_error id (Some (val v)) e p q = cc
there_error id None e p q = cc

pub errors_are_those : (w : World) (ps : List Policy) (e : PolicyError) → Contains (errors_of w ps) e ↔ ((p : Policy) × Contains ps p × (p.id ≡ e.id) × Means (with_slots w p.bindings) (condition p) (err e.fault))
errors_are_those w ps e = (
  λ h. let r = flat_from (λ (p : Policy). error_of p.id (policy_outcome w p)) ps e h in
      let k = error_there (r.0).id (policy_outcome w r.0) e r.2 in
      (r.0, r.1, k.0, outcome_error w r.0 e.fault k.1),
  λ h. flat_has (λ (p : Policy). error_of p.id (policy_outcome w p)) ps h.0 e h.1 (there_error (h.0).id (policy_outcome w h.0) e h.2 (error_outcome w h.0 e.fault h.3)),
)

-- one list allows what the other does
allows_too : (w : World) (ps qs : List Policy) → ((p : Policy) → Contains ps p ↔ Contains qs p) → decision_of w ps ≡ allow → decision_of w qs ≡ allow
allows_too w ps qs same h =
    let r = (allow_is_earned w ps).0 h in
    let p = r.0.0 in
    (allow_is_earned w qs).1 ((p, (same p).0 r.0.1, r.0.2, r.0.3), λ q m e s. r.1 q ((same q).1 m) e s)

same_decision : (a b : Decision) → (a ≡ allow → b ≡ allow) → (b ≡ allow → a ≡ allow) → a ≡ b
same_decision allow b f g = sym (f refl)
same_decision deny allow f g = g refl
same_decision deny deny f g = refl

same_decisions : (w : World) (ps qs : List Policy) → SameMembers ps qs → decision_of w ps ≡ decision_of w qs
same_decisions w ps qs same = same_decision (decision_of w ps) (decision_of w qs) (allows_too w ps qs same) (allows_too w qs ps (λ p. ((same p).1, (same p).0)))

reasons_too : (w : World) (ps qs : List Policy) → SameMembers ps qs → (id : Text) → Contains (reasons_of w ps) id → Contains (reasons_of w qs) id
reasons_too w ps qs same id h =
    let r = (reasons_are_those w ps id).0 h in
    (reasons_are_those w qs id).1 (r.0, (same r.0).0 r.1, r.2 ∙ ap deciding (same_decisions w ps qs same), r.3, r.4)

errors_too : (w : World) (ps qs : List Policy) → SameMembers ps qs → (e : PolicyError) → Contains (errors_of w ps) e → Contains (errors_of w qs) e
errors_too w ps qs same e h =
    let r = (errors_are_those w ps e).0 h in
    (errors_are_those w qs e).1 (r.0, (same r.0).0 r.1, r.2, r.3)

swapped : {A : Type 0} (xs ys : List A) → SameMembers xs ys → SameMembers ys xs
swapped xs ys same x = ((same x).1, (same x).0)

pub order_is_free : (w : World) (ps qs : List Policy) → SameMembers ps qs → (decision_of w ps ≡ decision_of w qs) × SameMembers (reasons_of w ps) (reasons_of w qs) × SameMembers (errors_of w ps) (errors_of w qs)
order_is_free w ps qs same = (
  same_decisions w ps qs same,
  λ id. (reasons_too w ps qs same id, reasons_too w qs ps (swapped ps qs same) id),
  λ e. (errors_too w ps qs same e, errors_too w qs ps (swapped ps qs same) e),
)
