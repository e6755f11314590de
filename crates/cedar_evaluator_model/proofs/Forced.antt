-- A decision is given as soon as what is known forces it.
use Rattle.std.proofs.Common.{◌≡◌, ℕ, true, false, cond, List, [], ◌∷◌, Contains, refl, sym, ap, ◌∙◌, subst, ◌⊎◌, inl, inr}
use Rattle.std.specs.Prelude.{Option, Some, None, All}
use Rattle.std.specs.List.{cons_option}
use Rattle.cedar_expr_model.specs.Value.{V, truth, long, text, entity, prim, set_of, record_of, extension, truth_value}
use Rattle.cedar_expr_model.proofs.Lists.{contains_head, contains_tail, contains_cases, contains_none}
use Rattle.cedar_store_model.specs.Outcome.{Res, val, err, Fault, bind}
use Rattle.cedar_store_model.specs.Meaning.{Means, outcome_of, truth_asked}
use Rattle.cedar_store_model.specs.Policy.{Policy, Effect, permit, forbid, condition}
use Rattle.cedar_store_model.specs.Answer.{Decision, allow, deny, with_slots, policy_outcome, IsSatisfied}
use Rattle.cedar_store_model.proofs.Meaning.{means_outcome}
use Rattle.cedar_evaluator_model.specs.Scope.{Scope, Left}
use Rattle.cedar_evaluator_model.specs.Steps.{errs, truth_left}
use Rattle.cedar_evaluator_model.specs.Evaluation.{evaluated}
use Rattle.cedar_evaluator_model.specs.Known.{known_world}
use Rattle.cedar_evaluator_model.specs.Completion.{FitsAnnotations}
use Rattle.cedar_evaluator_model.specs.OfLaws.Standing.{IsOutcome}
use Rattle.cedar_evaluator_model.specs.Response.{with_bindings, verdict, noted, of_effect, if_true, if_residual, group, response_of}
use Rattle.cedar_evaluator_model.specs.Members.{decided_by, decision, met_limit, decision_in_session}
use Rattle.cedar_evaluator_model.specs.Laws.{IsUnsatisfied, IsReady}
use Rattle.cedar_evaluator_model.proofs.Responses.{SameVerdict, same_verdict}
use Rattle.cedar_evaluator_model.proofs.Limits.{not_met, no_limit_within}
use Rattle.cedar_evaluator_model.proofs.Reached.{owed_unless_limit}

fits_of : (s : Scope) (ps : List Policy) → All (λ p. FitsAnnotations (known_world s) (condition p)) ps → (p : Policy) → Contains ps p → FitsAnnotations (known_world s) (condition p)
fits_of s ps h p c = subst (λ q. FitsAnnotations (known_world s) (condition q)) c.2 (h c.0 p c.1)

-- the outcome of the condition of a policy of the list is left
left_there : (s : Scope) (n : ℕ) (ps : List Policy) → IsReady s n ps → (p : Policy) → Contains ps p → (r : Res V) → Means (with_slots (known_world s) p.bindings) (condition p) r → IsOutcome r (evaluated (with_bindings s p.bindings) n (condition p))
left_there s n ps h p c r m = owed_unless_limit (with_bindings s p.bindings) h.agrees h.unbound n (condition p) (fits_of s ps h.fits p c) (no_limit_within s n p (not_met s n ps h.within p c)) r m

-- the verdict that goes with an outcome of the policy
verdict_there : (s : Scope) (n : ℕ) (ps : List Policy) → IsReady s n ps → (p : Policy) → Contains ps p → (r : Res V) → Means (with_slots (known_world s) p.bindings) (condition p) r → SameVerdict (policy_outcome (known_world s) p) (verdict s n p)
verdict_there s n ps h p c r m = same_verdict _ r (outcome_of (with_slots (known_world s) p.bindings) (condition p)) (evaluated (with_bindings s p.bindings) n (condition p)) (means_outcome (with_slots (known_world s) p.bindings) (condition p) r m) (left_there s n ps h p c r m)

-- the verdict on a satisfied policy is true
true_of : (o : Option (Res V)) (l : Left) → o ≡ Some (val (truth_value true)) → SameVerdict o l → l ≡ truth_left true
true_of o l e (inl (b, x, y)) =
    let k : Some (val (truth_value b)) ≡ Some (val (truth_value true)) = sym x ∙ e in
    let t : b ≡ true = cc in
    y ∙ ap truth_left t
true_of o l e (inr (f, x, y)) = let k : Some (err f) ≡ Some (val (truth_value true)) = sym x ∙ e in cc

true_verdict : (s : Scope) (n : ℕ) (ps : List Policy) → IsReady s n ps → (p : Policy) → Contains ps p → IsSatisfied (known_world s) p → verdict s n p ≡ truth_left true
true_verdict s n ps h p c m =
    let o : policy_outcome (known_world s) p ≡ Some (val (truth_value true)) = ap (λ x. bind x (λ v. Some (truth_asked v))) (means_outcome (with_slots (known_world s) p.bindings) (condition p) (val (truth_value true)) m) in
    true_of (policy_outcome (known_world s) p) (verdict s n p) o (verdict_there s n ps h p c (val (truth_value true)) m)

-- that on an unsatisfied one is false or an error
abbrev IsOut : Left → Type 0
IsOut l = (l ≡ truth_left false) ⊎ ((f : Fault) × (l ≡ errs f))

asked_true : (v : V) → truth_asked v ≡ val (truth_value true) → v ≡ truth_value true
asked_true (prim (truth b)) e = cc
asked_true (prim (long i)) e = cc
asked_true (prim (text i)) e = cc
asked_true (prim (entity i)) e = cc
asked_true (set_of vs) e = cc
asked_true (record_of fs) e = cc
asked_true (extension j k) e = cc

outcome_true : (r : Res V) (o : Option (Res V)) → o ≡ Some r → bind o (λ v. Some (truth_asked v)) ≡ Some (val (truth_value true)) → r ≡ val (truth_value true)
outcome_true (val v) o e t =
    let k : Some (truth_asked v) ≡ Some (val (truth_value true)) = ap (λ x. bind x (λ v. Some (truth_asked v))) (sym e) ∙ t in
    let j : truth_asked v ≡ val (truth_value true) = cc in
    ap val (asked_true v j)
outcome_true (err f) o e t = let k : Some (err f) ≡ Some (val (truth_value true)) = ap (λ x. bind x (λ v. Some (truth_asked v))) (sym e) ∙ t in cc

out_of : (o : Option (Res V)) (l : Left) → (o ≡ Some (val (truth_value true)) → ⊥) → SameVerdict o l → IsOut l
out_of o l h (inl (true, x, y)) = absurd (h x)
out_of o l h (inl (false, x, y)) = inl y
out_of o l h (inr (f, x, y)) = inr (f, y)

out_verdict : (s : Scope) (n : ℕ) (ps : List Policy) → IsReady s n ps → (p : Policy) → Contains ps p → IsUnsatisfied (known_world s) p → IsOut (verdict s n p)
out_verdict s n ps h p c u =
    out_of (policy_outcome (known_world s) p) (verdict s n p)
    (λ e. u.2 (outcome_true u.0 (outcome_of (with_slots (known_world s) p.bindings) (condition p)) (means_outcome (with_slots (known_world s) p.bindings) (condition p) u.0 u.1) e))
    (verdict_there s n ps h p c u.0 u.1)

-- groups that take a policy, and groups that take none
abbrev HasSome : {A : Type 0} → List A → Type 0
HasSome [] = ⊥
HasSome (x ∷ xs) = Unit {0}

some_more : {A : Type 0} (o : Option A) (xs : List A) → HasSome xs → HasSome (cons_option o xs)
some_more None xs h = h
some_more (Some x) xs h = tt

group_has : {A : Type 0} (e : Effect) (takes : Policy → Option A) (a : A) (ps : List Policy) (p : Policy) → Contains ps p → of_effect e p.effect (takes p) ≡ Some a → HasSome (group e takes ps)
group_has e takes a [] p c h = absurd (contains_none p c)
group_has e takes a (q ∷ ps) p c h =
    contains_cases (HasSome (group e takes (q ∷ ps))) q ps p c
    (λ i. subst (λ o. HasSome (cons_option o (group e takes ps))) (sym (ap (λ x. of_effect e x.effect (takes x)) i ∙ h)) tt)
    (λ d. some_more (of_effect e q.effect (takes q)) (group e takes ps) (group_has e takes a ps p d h))

group_none : {A : Type 0} (e : Effect) (takes : Policy → Option A) (ps : List Policy) → ((p : Policy) → Contains ps p → of_effect e p.effect (takes p) ≡ None) → group e takes ps ≡ []
group_none e takes [] h = refl
group_none e takes (p ∷ ps) h =
    let one = h p (contains_head p ps) in
    let rest = group_none e takes ps (λ q c. h q (contains_tail p ps q c)) in
    λ i. cons_option (one i) (rest i)

-- what groups take of verdicts
took_true : (e d : Effect) (p : Policy) (l : Left) → d ≡ e → l ≡ truth_left true → of_effect e d (if_true p l) ≡ Some (noted p)
took_true e d p l i h = (λ j. of_effect e (i j) (if_true p (h j))) ∙ go e
  where
    go : (e : Effect) → of_effect e e (if_true p (truth_left true)) ≡ Some (noted p)
    go permit = refl
    go forbid = refl

not_true : (p : Policy) (l : Left) → IsOut l → if_true p l ≡ None
not_true p l (inl e) = ap (if_true p) e
not_true p l (inr (f, e)) = ap (if_true p) e

not_residual : (p : Policy) (l : Left) → IsOut l → if_residual p l ≡ None
not_residual p l (inl e) = ap (if_residual p) e
not_residual p l (inr (f, e)) = ap (if_residual p) e

-- of an effect whose policies are out a group takes none
all_out : {A : Type 0} (e : Effect) (takes : Policy → Left → Option A) → ((p : Policy) (l : Left) → IsOut l → takes p l ≡ None) → (s : Scope) (n : ℕ) (ps : List Policy) → ((p : Policy) → Contains ps p → p.effect ≡ e → IsOut (verdict s n p)) → group e (λ p. takes p (verdict s n p)) ps ≡ []
all_out {A} e takes none s n ps h = group_none e (λ p. takes p (verdict s n p)) ps (λ p c. go p (h p c) e p.effect refl refl)
  where
    go : (p : Policy) → (p.effect ≡ e → IsOut (verdict s n p)) → (x d : Effect) → x ≡ e → p.effect ≡ d → of_effect x d (takes p (verdict s n p)) ≡ None
    go p k permit permit i j = none p (verdict s n p) (k (j ∙ i))
    go p k forbid forbid i j = none p (verdict s n p) (k (j ∙ i))
    go p k permit forbid i j = refl
    go p k forbid permit i j = refl

-- decisions
forbidden : {A B C D : Type 0} (ps : List A) (ls : List B) (fs : List C) (ms : List D) → HasSome fs → decided_by ps ls fs ms ≡ Some deny
forbidden ps ls [] ms h = absurd h
forbidden ps ls (f ∷ fs) ms h = refl

permitted : {A B C D : Type 0} (ps : List A) (ls : List B) (fs : List C) (ms : List D) → HasSome ps → fs ≡ [] → ms ≡ [] → decided_by ps ls fs ms ≡ Some allow
permitted [] ls fs ms h e i = absurd h
permitted (p ∷ ps) ls fs ms h e i = λ j. decided_by (p ∷ ps) ls (e j) (i j)

no_permit : {A B C D : Type 0} (ps : List A) (ls : List B) (fs : List C) (ms : List D) → ps ≡ [] → ls ≡ [] → decided_by ps ls fs ms ≡ Some deny
no_permit {C = C} ps ls [] ms e i = λ j. decided_by {C = C} (e j) (i j) [] ms
no_permit ps ls (f ∷ fs) ms e i = refl

in_session : (s : Scope) (n : ℕ) (ps : List Policy) → met_limit (response_of s n ps) ≡ false → (d : Option Decision) → decision (response_of s n ps) ≡ d → decision_in_session (response_of s n ps) ≡ d
in_session s n ps h d e = (λ i. cond (h i) None (decision (response_of s n ps))) ∙ e

pub forbid_forces : (s : Scope) (n : ℕ) (ps : List Policy) → IsReady s n ps → (p : Policy) → Contains ps p → p.effect ≡ forbid → IsSatisfied (known_world s) p → decision_in_session (response_of s n ps) ≡ Some deny
forbid_forces s n ps h p c e m =
    let has = group_has forbid (λ q. if_true q (verdict s n q)) (noted p) ps p c (took_true forbid p.effect p (verdict s n p) e (true_verdict s n ps h p c m)) in
    in_session s n ps h.within (Some deny) (forbidden (response_of s n ps).true_permits (response_of s n ps).residual_permits (response_of s n ps).true_forbids (response_of s n ps).residual_forbids has)

pub permit_forces : (s : Scope) (n : ℕ) (ps : List Policy) → IsReady s n ps → ((q : Policy) → Contains ps q → q.effect ≡ forbid → IsUnsatisfied (known_world s) q) → (p : Policy) → Contains ps p → p.effect ≡ permit → IsSatisfied (known_world s) p → decision_in_session (response_of s n ps) ≡ Some allow
permit_forces s n ps h out p c e m =
    let has = group_has permit (λ q. if_true q (verdict s n q)) (noted p) ps p c (took_true permit p.effect p (verdict s n p) e (true_verdict s n ps h p c m)) in
    let outs : (q : Policy) → Contains ps q → q.effect ≡ forbid → IsOut (verdict s n q) = λ q d i. out_verdict s n ps h q d (out q d i) in
    in_session s n ps h.within (Some allow)
    (permitted (response_of s n ps).true_permits (response_of s n ps).residual_permits (response_of s n ps).true_forbids (response_of s n ps).residual_forbids has (all_out forbid if_true not_true s n ps outs) (all_out forbid if_residual not_residual s n ps outs))

pub no_permit_forces : (s : Scope) (n : ℕ) (ps : List Policy) → IsReady s n ps → ((p : Policy) → Contains ps p → p.effect ≡ permit → IsUnsatisfied (known_world s) p) → decision_in_session (response_of s n ps) ≡ Some deny
no_permit_forces s n ps h out =
    let outs : (q : Policy) → Contains ps q → q.effect ≡ permit → IsOut (verdict s n q) = λ q d i. out_verdict s n ps h q d (out q d i) in
    let r = response_of s n ps in
    in_session s n ps h.within (Some deny)
    (no_permit r.true_permits r.residual_permits r.true_forbids r.residual_forbids (all_out permit if_true not_true s n ps outs) (all_out permit if_residual not_residual s n ps outs))
