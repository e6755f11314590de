-- What the decision says of the policies.
use Rattle.std.proofs.Common.{◌≡◌, ◌↔◌, List, [], ◌∷◌, true, not, ◌&&◌, refl, ap, subst}
use Rattle.std.specs.Prelude.{Contains}
use Rattle.cedar_expr_model.proofs.Lists.{both_hold, hold_both, contains_head, contains_none, filter_has, filter_only}
use Rattle.cedar_store_model.specs.World.{World}
use Rattle.cedar_store_model.specs.Policy.{Policy, Effect, permit, forbid}
use Rattle.cedar_store_model.specs.Answer.{allow, permits, satisfied, satisfied_permits, satisfied_forbids, decided, decision_of}
use Rattle.cedar_store_model.specs.AnswerLaws.{HasPermit, HasNoForbid}
use Rattle.cedar_store_model.proofs.Conditions.{satisfied-Decides}

-- by its first item a list isn't empty
allowed_parts : (ps fs : List Policy) → decided ps fs ≡ allow → ((p : Policy) × Contains ps p) × (fs ≡ [])
allowed_parts [] [] h = cc
allowed_parts (p ∷ ps) [] h = ((p, contains_head p ps), refl)
allowed_parts [] (f ∷ fs) h = cc
allowed_parts (p ∷ ps) (f ∷ fs) h = cc

pub is_permit : (e : Effect) → permits e ≡ true → e ≡ permit
is_permit permit h = refl
is_permit forbid h = cc

allow_gives : (w : World) (ps : List Policy) → decision_of w ps ≡ allow → HasPermit w ps × HasNoForbid w ps
allow_gives w ps h =
    let r = allowed_parts (satisfied_permits w ps) (satisfied_forbids w ps) h in
    let p = r.0.0 in
    let k = filter_only (λ (q : Policy). permits q.effect && satisfied w q) ps p r.0.1 in
    let b = both_hold (permits p.effect) (satisfied w p) k.1 in (
      (p, k.0, is_permit p.effect b.0, (satisfied-Decides w p).0 b.1),
      λ q m e s. let t : (not (permits q.effect) && satisfied w q) ≡ true = hold_both (not (permits q.effect)) (satisfied w q) (ap (λ (x : Effect). not (permits x)) e) ((satisfied-Decides w q).1 s) in
          contains_none q (subst (λ (l : List Policy). Contains l q) r.1 (filter_has (λ (x : Policy). not (permits x.effect) && satisfied w x) ps q m t)),
    )

-- the decision where a permit stands and no forbid does
allowed_by : (ps fs : List Policy) → (p : Policy) → Contains ps p → ((f : Policy) → Contains fs f → ⊥) → decided ps fs ≡ allow
allowed_by [] fs p h none = absurd (contains_none p h)
allowed_by (q ∷ ps) [] p h none = refl
allowed_by (q ∷ ps) (f ∷ fs) p h none = absurd (none f (contains_head f fs))

pub is_forbid : (e : Effect) → not (permits e) ≡ true → e ≡ forbid
is_forbid permit h = cc
is_forbid forbid h = refl

gives_allow : (w : World) (ps : List Policy) → HasPermit w ps × HasNoForbid w ps → decision_of w ps ≡ allow
gives_allow w ps h =
    let p = h.0.0 in
    let t : (permits p.effect && satisfied w p) ≡ true = hold_both (permits p.effect) (satisfied w p) (ap permits h.0.2) ((satisfied-Decides w p).1 h.0.3) in
    allowed_by (satisfied_permits w ps) (satisfied_forbids w ps) p (filter_has (λ (q : Policy). permits q.effect && satisfied w q) ps p h.0.1 t)
    (λ f m. let k = filter_only (λ (q : Policy). not (permits q.effect) && satisfied w q) ps f m in
    let b = both_hold (not (permits f.effect)) (satisfied w f) k.1 in
    h.1 f k.0 (is_forbid f.effect b.0) ((satisfied-Decides w f).0 b.1))

pub allow_is_earned : (w : World) (ps : List Policy) → (decision_of w ps ≡ allow) ↔ (HasPermit w ps × HasNoForbid w ps)
allow_is_earned w ps = (allow_gives w ps, gives_allow w ps)
