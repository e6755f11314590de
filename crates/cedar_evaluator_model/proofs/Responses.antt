-- Where nothing is unknown the response is the answer.
use Rattle.std.proofs.Common.{◌≡◌, ℕ, Bool, true, false, cond, not, ◌&&◌, List, [], ◌∷◌, ◌++◌, refl, sym, ap, ◌∙◌, subst, ◌⊎◌, inl, inr}
use Rattle.std.specs.Prelude.{Option, Some, None, map, All, slice_index_or}
use Rattle.std.specs.List.{filter_map, cons_option, list_any}
use Rattle.std.proofs.lemmas.List.Elements.{All-head, All-tail, Contains-get_or}
use Rattle.cedar_expr_model.specs.Value.{V, truth, truth_value}
use Rattle.cedar_expr_model.specs.Tree.{Tree}
use Rattle.cedar_expr_model.specs.Made.{Made, made_prim, bare}
use Rattle.cedar_store_model.specs.Outcome.{Res, val, err, Fault, wrong_type, bind}
use Rattle.cedar_store_model.specs.World.{World}
use Rattle.cedar_store_model.specs.Meaning.{outcome_of, truth_asked}
use Rattle.cedar_store_model.specs.Policy.{Policy, Effect, permit, forbid, condition}
use Rattle.cedar_store_model.specs.Answer.{PolicyError, with_slots, policy_outcome, is_true, satisfied, permits, satisfied_permits, satisfied_forbids, ids, decided, determining, error_of, errors_of, decision_of, answer_of}
use Rattle.cedar_store_model.proofs.Meaning.{means_outcome}
use Rattle.cedar_evaluator_model.specs.Scope.{Scope, fault, limit, Left, stopped}
use Rattle.cedar_evaluator_model.specs.OfLaws.Calls.{Agrees}
use Rattle.cedar_evaluator_model.specs.Steps.{errs, truth_left, on_value, truth_wanted}
use Rattle.cedar_evaluator_model.specs.Evaluation.{evaluated}
use Rattle.cedar_evaluator_model.specs.Known.{known_world}
use Rattle.cedar_evaluator_model.specs.OfLaws.Whole.{NothingUnknown, AllLoaded}
use Rattle.cedar_evaluator_model.specs.OfLaws.Standing.{IsOutcome}
use Rattle.cedar_evaluator_model.specs.Response.{Noted, ResponseError, stops, with_bindings, verdict, noted, of_effect, if_true, if_residual, if_stopped, group, response_of}
use Rattle.cedar_evaluator_model.specs.Members.{of_true, of_residual, decided_by, if_none, without_value, concretize, is_limit, met_limit, decision_in_session, nontrivial_residuals}
use Rattle.cedar_evaluator_model.specs.Laws.{IsBound, as_concrete}
use Rattle.cedar_evaluator_model.proofs.Limits.{not_met, no_limit_within}
use Rattle.cedar_evaluator_model.proofs.Reached.{outcome_or_limit, owed_unless_limit}
use Rattle.cedar_evaluator_model.proofs.Exact.{grounded, leaves_unbound, all_fit}

-- the outcome and the verdict of a policy: the same truth value, or the same error
abbrev pub SameVerdict : Option (Res V) → Left → Type 0
SameVerdict o l = ((b : Bool) × (o ≡ Some (val (truth_value b))) × (l ≡ truth_left b)) ⊎ ((f : Fault) × (o ≡ Some (err f)) × (l ≡ errs f))

same_asked : (m : Made) → SameVerdict (Some (truth_asked (bare m))) (truth_wanted m)
same_asked (made_prim (truth b)) = inl (b, refl, refl)
same_asked m = inr (wrong_type, refl, refl)

pub same_verdict : (other : Tree → Left) (r : Res V) (o : Option (Res V)) (l : Left) → o ≡ Some r → IsOutcome r l → SameVerdict (bind o (λ v. Some (truth_asked v))) (on_value l truth_wanted other)
same_verdict other (val v) o l e h =
    let one : SameVerdict (Some (truth_asked v)) (truth_wanted h.0) = subst (λ x. SameVerdict (Some (truth_asked x)) (truth_wanted h.0)) h.2 (same_asked h.0) in
    let two = subst (λ x. SameVerdict (bind x (λ v. Some (truth_asked v))) (truth_wanted h.0)) (sym e) one in
    subst (λ x. SameVerdict (bind o (λ v. Some (truth_asked v))) (on_value x truth_wanted other)) (sym h.1) two
same_verdict other (err f) o l e h = inr (f, ap (λ x. bind x (λ v. Some (truth_asked v))) e, ap (λ x. on_value x truth_wanted other) h)

-- what a group takes of such a policy
module _ (p : Policy) where
  takes_true : (e : Effect) (o : Option (Res V)) (l : Left) → SameVerdict o l → of_effect permit e (if_true p l) ≡ cond (permits e && is_true o) (Some (noted p)) None
  takes_true e o l (inl (b, x, y)) = (λ i. of_effect permit e (if_true p (y i))) ∙ go e b ∙ (λ i. cond (permits e && is_true (sym x i)) (Some (noted p)) None)
    where
      go : (e : Effect) (b : Bool) → of_effect permit e (if_true p (truth_left b)) ≡ cond (permits e && b) (Some (noted p)) None
      go permit true = refl
      go permit false = refl
      go forbid true = refl
      go forbid false = refl
  takes_true e o l (inr (f, x, y)) = (λ i. of_effect permit e (if_true p (y i))) ∙ go e ∙ (λ i. cond (permits e && is_true (sym x i)) (Some (noted p)) None)
    where
      go : (e : Effect) → of_effect permit e (if_true p (errs f)) ≡ cond (permits e && false) (Some (noted p)) None
      go permit = refl
      go forbid = refl

  takes_forbid : (e : Effect) (o : Option (Res V)) (l : Left) → SameVerdict o l → of_effect forbid e (if_true p l) ≡ cond (not (permits e) && is_true o) (Some (noted p)) None
  takes_forbid e o l (inl (b, x, y)) = (λ i. of_effect forbid e (if_true p (y i))) ∙ go e b ∙ (λ i. cond (not (permits e) && is_true (sym x i)) (Some (noted p)) None)
    where
      go : (e : Effect) (b : Bool) → of_effect forbid e (if_true p (truth_left b)) ≡ cond (not (permits e) && b) (Some (noted p)) None
      go permit true = refl
      go permit false = refl
      go forbid true = refl
      go forbid false = refl
  takes_forbid e o l (inr (f, x, y)) = (λ i. of_effect forbid e (if_true p (y i))) ∙ go e ∙ (λ i. cond (not (permits e) && is_true (sym x i)) (Some (noted p)) None)
    where
      go : (e : Effect) → of_effect forbid e (if_true p (errs f)) ≡ cond (not (permits e) && false) (Some (noted p)) None
      go permit = refl
      go forbid = refl

  takes_residual : (d e : Effect) (o : Option (Res V)) (l : Left) → SameVerdict o l → of_effect d e (if_residual p l) ≡ None
  takes_residual d e o l (inl (b, x, y)) = (λ i. of_effect d e (if_residual p (y i))) ∙ go d e
    where
      go : (d e : Effect) → of_effect d e (if_residual p (truth_left b)) ≡ None
      go permit permit = refl
      go permit forbid = refl
      go forbid permit = refl
      go forbid forbid = refl
  takes_residual d e o l (inr (f, x, y)) = (λ i. of_effect d e (if_residual p (y i))) ∙ go d e
    where
      go : (d e : Effect) → of_effect d e (if_residual p (errs f)) ≡ None
      go permit permit = refl
      go permit forbid = refl
      go forbid permit = refl
      go forbid forbid = refl

abbrev as_error : PolicyError → ResponseError
as_error e = record { id = e.id; cause = stops (fault e.fault) }

takes_error : (p : Policy) (o : Option (Res V)) (l : Left) (es : List PolicyError) → SameVerdict o l → cons_option (if_stopped p l) (map as_error es) ≡ map as_error (error_of p.id o ++ es)
takes_error p o l es (inl (b, x, y)) = (λ i. cons_option (if_stopped p (y i)) (map as_error es)) ∙ (λ i. map as_error (error_of p.id (sym x i) ++ es))
takes_error p o l es (inr (f, x, y)) = (λ i. cons_option (if_stopped p (y i)) (map as_error es)) ∙ (λ i. map as_error (error_of p.id (sym x i) ++ es))

no_limit_error : (o : Option (Res V)) (l : Left) (p : Policy) (es : List ResponseError) → SameVerdict o l → list_any (λ e. is_limit e.cause) es ≡ false → list_any (λ e. is_limit e.cause) (cons_option (if_stopped p l) es) ≡ false
no_limit_error o l p es (inl (b, x, y)) h = (λ i. list_any (λ e. is_limit e.cause) (cons_option (if_stopped p (y i)) es)) ∙ h
no_limit_error o l p es (inr (f, x, y)) h = (λ i. list_any (λ e. is_limit e.cause) (cons_option (if_stopped p (y i)) es)) ∙ h

next_noted : (b : Bool) (p : Policy) (ps : List Policy) → cons_option (cond b (Some (noted p)) None) (map noted ps) ≡ map noted (cond b (p ∷ ps) ps)
next_noted true p ps = refl
next_noted false p ps = refl

-- the groups of a list of policies
module _ (w : World) (s : Scope) (n : ℕ) where
  abbrev pub Same : Policy → Type 0
  Same p = SameVerdict (policy_outcome w p) (verdict s n p)

  true_permits_are : (ps : List Policy) → All Same ps → group permit (λ p. if_true p (verdict s n p)) ps ≡ map noted (satisfied_permits w ps)
  true_permits_are [] h = refl
  true_permits_are (p ∷ ps) h =
      let rest = true_permits_are ps (All-tail Same p ps h) in
      let one = takes_true p p.effect (policy_outcome w p) (verdict s n p) (All-head Same p ps h) in
      (λ i. cons_option (one i) (rest i)) ∙ next_noted (permits p.effect && satisfied w p) p (satisfied_permits w ps)

  true_forbids_are : (ps : List Policy) → All Same ps → group forbid (λ p. if_true p (verdict s n p)) ps ≡ map noted (satisfied_forbids w ps)
  true_forbids_are [] h = refl
  true_forbids_are (p ∷ ps) h =
      let rest = true_forbids_are ps (All-tail Same p ps h) in
      let one = takes_forbid p p.effect (policy_outcome w p) (verdict s n p) (All-head Same p ps h) in
      (λ i. cons_option (one i) (rest i)) ∙ next_noted (not (permits p.effect) && satisfied w p) p (satisfied_forbids w ps)

  residuals_are : (d : Effect) (ps : List Policy) → All Same ps → group d (λ p. if_residual p (verdict s n p)) ps ≡ []
  residuals_are d [] h = refl
  residuals_are d (p ∷ ps) h =
      let rest = residuals_are d ps (All-tail Same p ps h) in
      let one = takes_residual p d p.effect (policy_outcome w p) (verdict s n p) (All-head Same p ps h) in
      λ i. cons_option (one i) (rest i)

  errors_are : (ps : List Policy) → All Same ps → filter_map (λ p. if_stopped p (verdict s n p)) ps ≡ map as_error (errors_of w ps)
  errors_are [] h = refl
  errors_are (p ∷ ps) h =
      let rest = errors_are ps (All-tail Same p ps h) in
      ap (cons_option (if_stopped p (verdict s n p))) rest ∙ takes_error p (policy_outcome w p) (verdict s n p) (errors_of w ps) (All-head Same p ps h)

  no_limits : (ps : List Policy) → All Same ps → met_limit (response_of s n ps) ≡ false
  no_limits [] h = refl
  no_limits (p ∷ ps) h = no_limit_error (policy_outcome w p) (verdict s n p) p (filter_map (λ p. if_stopped p (verdict s n p)) ps) (All-head Same p ps h) (no_limits ps (All-tail Same p ps h))

-- decisions and reasons of such groups
same_decision : (ps fs : List Policy) → decided (map noted ps) (map noted fs) ≡ decided ps fs
same_decision [] [] = refl
same_decision (p ∷ ps) [] = refl
same_decision ps (f ∷ fs) = refl

given_decision : (ps fs : List Policy) → decided_by {B = Noted × Tree} {D = Noted × Tree} (map noted ps) [] (map noted fs) [] ≡ Some (decided ps fs)
given_decision [] [] = refl
given_decision (p ∷ ps) [] = refl
given_decision ps (f ∷ fs) = refl

same_ids : (e : Effect) (ps : List Policy) → ids (of_true e (map noted ps)) ≡ ids ps
same_ids e [] = refl
same_ids e (p ∷ ps) = ap (λ is. p.id ∷ is) (same_ids e ps)

same_reasons : (ps fs : List Policy) → ids (if_none (map noted fs) (of_true permit (map noted ps)) (of_true forbid (map noted fs))) ≡ ids (determining ps fs)
same_reasons ps [] = same_ids permit ps
same_reasons ps (f ∷ fs) = same_ids forbid (f ∷ fs)

pub response_is_answer : (w : World) (s : Scope) (n : ℕ) (ps : List Policy) → All (Same w s n) ps → concretize (response_of s n ps) ≡ as_concrete (answer_of w ps)
response_is_answer w s n ps h =
    let tp = true_permits_are w s n ps h in
    let tf = true_forbids_are w s n ps h in
    let rp = residuals_are w s n permit ps h in
    let rf = residuals_are w s n forbid ps h in
    let er = errors_are w s n ps h in
    let one = same_decision (satisfied_permits w ps) (satisfied_forbids w ps) in
    let two = same_reasons (satisfied_permits w ps) (satisfied_forbids w ps) in
    (λ i.
    record {
      decision = decided (tp i) (tf i);
      reasons = ids (if_none (tf i) (if_none (rf i) (of_true permit (tp i)) (of_true forbid (tf i))) (of_true forbid (tf i)));
      errors = map without_value (rf i ++ rp i) ++ er i;
    })
    ∙ (λ i. record { decision = one i; reasons = two i; errors = map as_error (errors_of w ps) })

pub decision_is_given : (w : World) (s : Scope) (n : ℕ) (ps : List Policy) → All (Same w s n) ps → decision_in_session (response_of s n ps) ≡ Some (decision_of w ps)
decision_is_given w s n ps h =
    let tp = true_permits_are w s n ps h in
    let tf = true_forbids_are w s n ps h in
    let rp = residuals_are w s n permit ps h in
    let rf = residuals_are w s n forbid ps h in
    (λ i. cond (no_limits w s n ps h i) None (decided_by (tp i) (rp i) (tf i) (rf i))) ∙ given_decision (satisfied_permits w ps) (satisfied_forbids w ps)

-- the scope with the slots of a policy has nothing unknown either
known_with : (s : Scope) → NothingUnknown s → (p : Policy) → NothingUnknown (with_bindings s p.bindings)
known_with s k p = record { principal = k.principal; action = k.action; resource = k.resource; context = k.context; store = k.store; calls = k.calls }

one_same : (s : Scope) → Agrees s → NothingUnknown s → AllLoaded s → (n : ℕ) (p : Policy) → IsBound s p → (verdict s n p ≡ stopped limit → ⊥) → Same (known_world s) s n p
one_same s agrees k l n p x e =
    let t = with_bindings s p.bindings in
    let o = grounded t (known_with s k p) l (condition p) x in
    same_verdict _ o.0 (outcome_of (with_slots (known_world s) p.bindings) (condition p)) (evaluated t n (condition p)) (means_outcome (known_world t) (condition p) o.0 o.1)
    (owed_unless_limit t agrees (leaves_unbound s agrees k.calls) n (condition p) (all_fit t (condition p) x) (no_limit_within s n p e) o.0 o.1)

pub all_same : (s : Scope) → Agrees s → NothingUnknown s → AllLoaded s → (n : ℕ) (ps : List Policy) → All (IsBound s) ps → met_limit (response_of s n ps) ≡ false → All (Same (known_world s) s n) ps
all_same s agrees k l n ps h e j d lt =
    let p = slice_index_or ps j d in
    one_same s agrees k l n p (h j d lt) (not_met s n ps e p (Contains-get_or ps j d lt))

pub answers : (s : Scope) → Agrees s → NothingUnknown s → AllLoaded s → (n : ℕ) (ps : List Policy) → All (IsBound s) ps → met_limit (response_of s n ps) ≡ false → concretize (response_of s n ps) ≡ as_concrete (answer_of (known_world s) ps)
answers s agrees k l n ps h e = response_is_answer (known_world s) s n ps (all_same s agrees k l n ps h e)

pub decisions : (s : Scope) → Agrees s → NothingUnknown s → AllLoaded s → (n : ℕ) (ps : List Policy) → All (IsBound s) ps → met_limit (response_of s n ps) ≡ false → decision_in_session (response_of s n ps) ≡ Some (decision_of (known_world s) ps)
decisions s agrees k l n ps h e = decision_is_given (known_world s) s n ps (all_same s agrees k l n ps h e)

-- no policy is residual, at any limit
verdict_no_residual : (other : Tree → Left) (q : Res V) (l : Left) (p : Policy) → (l ≡ stopped limit) ⊎ IsOutcome q l → if_residual p (on_value l truth_wanted other) ≡ None
verdict_no_residual other q l p (inl e) = ap (λ x. if_residual p (on_value x truth_wanted other)) e
verdict_no_residual other (val v) l p (inr h) = ap (λ x. if_residual p (on_value x truth_wanted other)) h.1 ∙ go h.0
  where
    go : (m : Made) → if_residual p (truth_wanted m) ≡ None
    go (made_prim (truth b)) = refl
    go m = refl
verdict_no_residual other (err f) l p (inr h) = ap (λ x. if_residual p (on_value x truth_wanted other)) h

one_no_residual : (s : Scope) → Agrees s → NothingUnknown s → AllLoaded s → (n : ℕ) (p : Policy) → IsBound s p → if_residual p (verdict s n p) ≡ None
one_no_residual s agrees k l n p x =
    let t = with_bindings s p.bindings in
    let o = grounded t (known_with s k p) l (condition p) x in
    verdict_no_residual _ o.0 (evaluated t n (condition p)) p (outcome_or_limit t agrees (leaves_unbound s agrees k.calls) n (condition p) (all_fit t (condition p) x) o.0 o.1)

took_none : {A : Type 0} (e d : Effect) → of_effect {A = A} e d None ≡ None
took_none permit permit = refl
took_none permit forbid = refl
took_none forbid permit = refl
took_none forbid forbid = refl

none_left : (d : Effect) (s : Scope) → Agrees s → NothingUnknown s → AllLoaded s → (n : ℕ) (ps : List Policy) → All (IsBound s) ps → group d (λ p. if_residual p (verdict s n p)) ps ≡ []
none_left d s agrees k l n [] h = refl
none_left d s agrees k l n (p ∷ ps) h =
    let one = one_no_residual s agrees k l n p (All-head (IsBound s) p ps h) in
    let rest = none_left d s agrees k l n ps (All-tail (IsBound s) p ps h) in
    (λ i. cons_option (of_effect d p.effect (one i)) (rest i)) ∙ ap (λ o. cons_option o []) (took_none d p.effect)

pub no_residuals : (s : Scope) → Agrees s → NothingUnknown s → AllLoaded s → (n : ℕ) (ps : List Policy) → All (IsBound s) ps → nontrivial_residuals (response_of s n ps) ≡ []
no_residuals s agrees k l n ps h = λ i. of_residual permit (none_left permit s agrees k l n ps h i) ++ of_residual forbid (none_left forbid s agrees k l n ps h i)
