-- Reauthorizing in a completion: each policy is kept, and a decision that is given is the one that follows, along whole chains.
use Rattle.std.proofs.Common.{◌≡◌, ◌↔◌, ℕ, Bool, true, false, cond, List, [], ◌∷◌, ◌++◌, refl, sym, ap, ◌∙◌, subst, ⊎_elim}
use Rattle.std.specs.Prelude.{Option, Some, None, Contains, find, slice_index_or}
use Rattle.std.specs.Option.{option_map_or}
use Rattle.std.specs.Str.{bytes_eq}
use Rattle.std.proofs.lemmas.List.Elements.{All-contains, Contains-get_or, Contains-append_left, Contains-append_right, Contains-append_cases}
use Rattle.std.proofs.lemmas.Slice.Eq.{bytes_eq-Decides}
use Rattle.cedar_expr_model.specs.Name.{Text}
use Rattle.cedar_expr_model.specs.ListLaws.{AreDistinct}
use Rattle.cedar_expr_model.specs.Repeats.{repeated}
use Rattle.cedar_expr_model.proofs.Repeating.{repeats_decide}
use Rattle.cedar_expr_model.specs.Substitution.{Bindings}
use Rattle.cedar_expr_model.proofs.Lists.{contains_head, contains_tail}
use Rattle.cedar_store_model.specs.World.{World}
use Rattle.cedar_store_model.specs.Policy.{Policy, permit, forbid, condition}
use Rattle.cedar_store_model.specs.Answer.{Decision, allow, deny, IsSatisfied, satisfied, ids, decision_of}
use Rattle.cedar_store_model.specs.AnswerLaws.{HasPermit, HasNoForbid}
use Rattle.cedar_store_model.proofs.Answers.{allow_is_earned}
use Rattle.cedar_store_model.proofs.Conditions.{satisfied-Decides}
use Rattle.cedar_evaluator_model.specs.Scope.{Scope}
use Rattle.cedar_evaluator_model.specs.OfLaws.Calls.{Agrees}
use Rattle.cedar_evaluator_model.specs.OfLaws.WellMade.{IsContextMadeWell, AllMadeWell}
use Rattle.cedar_evaluator_model.specs.Completion.{FitsAnnotations}
use Rattle.cedar_evaluator_model.specs.OfLaws.Completing.{Completes}
use Rattle.cedar_evaluator_model.specs.Response.{PartialRequest, Response, verdict, response_of}
use Rattle.cedar_evaluator_model.specs.Members.{of_true, of_false, of_residual, all_residuals, get, met_limit, decision_in_session}
use Rattle.cedar_evaluator_model.specs.Reauthorize.{makes_it, refuses, repeated_id, and_next, distinct, request_bound, resumed, reauthorized}
use Rattle.cedar_evaluator_model.specs.ResponseLaws.{FitConditions, IsKept}
use Rattle.cedar_evaluator_model.specs.ReauthorizeLaws.{CompletesResponse, Step, FitsStep, Chain, BeginsIn}
use Rattle.cedar_evaluator_model.proofs.Again.{again_is}
use Rattle.cedar_evaluator_model.proofs.Limits.{not_met}
use Rattle.cedar_evaluator_model.proofs.Residuals.Policies.{verdict_told, both_ways, kept, left_fits}
use Rattle.cedar_evaluator_model.proofs.Residuals.Decisions.{given}
use Rattle.cedar_evaluator_model.proofs.Residuals.Kept.{three_has, three_from, first_last, left_of, left_has, left_from, keeps_satisfied}
use Rattle.cedar_evaluator_model.proofs.Residuals.Bound.{made_next, request_completes, resumed_completes, resumed_well}

-- ids that reauthorizing doesn't refuse are distinct
distinct_case : (ps qs : List Policy) (o : Option Text) → repeated bytes_eq (ids ps) ≡ o → option_map_or (λ i. refuses (repeated_id i)) o (makes_it ps) ≡ makes_it qs → AreDistinct (ids ps)
distinct_case ps qs None e h = (repeats_decide bytes_eq bytes_eq-Decides (ids ps)).0 e
distinct_case ps qs (Some i) e h = cc

-- the request that is bound, and the response that is made
pub parts_of : (s : Scope) (n : ℕ) (env : Bindings) (r q : Response) → reauthorized s n env r ≡ makes_it q
    → AreDistinct (ids (all_residuals r)) × ((b : PartialRequest) × (request_bound s env r.request ≡ makes_it b) × (q ≡ response_of (resumed s env b) n (all_residuals r)))
parts_of s n env r q e =
    let p = made_next (distinct (all_residuals r)) (λ ps. and_next (request_bound s env r.request) (λ c. makes_it (response_of (resumed s env c) n ps))) q e in
    let b = made_next (request_bound s env r.request) (λ c. makes_it (response_of (resumed s env c) n p.0)) q p.2 in
    (distinct_case (all_residuals r) p.0 (repeated bytes_eq (ids (all_residuals r))) refl p.1, (b.0, b.1, again_is s n env r q b.0 b.1 e))

-- what is left of the policies decides as they do
same_decision : (d e : Decision) → (d ≡ allow → e ≡ allow) → (e ≡ allow → d ≡ allow) → d ≡ e
same_decision allow e h k = sym (h refl)
same_decision deny allow h k = k refl
same_decision deny deny h k = refl

module _ (w : World) (s : Scope) (agrees : Agrees s) (complete : Completes w s) (well : AllMadeWell s) (n : ℕ) (ps : List Policy) (fits : FitConditions w ps) where
  fits_here : (p : Policy) → Contains ps p → FitsAnnotations w (condition p)
  fits_here p c = All-contains (λ p. FitsAnnotations w (condition p)) ps p fits c

  all_left_fit : FitConditions w (all_residuals (response_of s n ps))
  all_left_fit j d lt =
      let q = slice_index_or (all_residuals (response_of s n ps)) j d in
      let k = left_from s n ps q (Contains-get_or (all_residuals (response_of s n ps)) j d lt) in
      let p = k.0 in
      subst (λ x. FitsAnnotations w (condition x)) (sym k.2) (left_fits w p (satisfied w p) (verdict s n p) (verdict_told w s agrees complete well n p (fits_here p k.1)))

  pub response_completed : CompletesResponse w (response_of s n ps)
  response_completed =
      let context = subst (λ x. IsContextMadeWell x s.context) (sym complete.table) well.context in
      record { request = record { means = record { principal = complete.principal; action = complete.action; resource = complete.resource; context = complete.context }; made = context }; fits = all_left_fit }

  module _ (met : met_limit (response_of s n ps) ≡ false) where
    left_kept : (p : Policy) → Contains ps p → IsSatisfied w p ↔ IsSatisfied w (left_of s n ps p)
    left_kept p c =
        let q = left_of s n ps p in
        both_ways (satisfied w p) (satisfied w q) (IsSatisfied w p) (IsSatisfied w q) (satisfied-Decides w p) (satisfied-Decides w q)
        (kept w p (verdict s n p) (not_met s n ps met p c) (verdict_told w s agrees complete well n p (fits_here p c)))

    permit_left : HasPermit w ps → HasPermit w (all_residuals (response_of s n ps))
    permit_left h = (left_of s n ps h.0, left_has s n ps h.0 h.1, h.2, (left_kept h.0 h.1).0 h.3)

    permit_before : HasPermit w (all_residuals (response_of s n ps)) → HasPermit w ps
    permit_before h =
        let k = left_from s n ps h.0 h.1 in
        (k.0, k.1, ap (λ (q : Policy). q.effect) (sym k.2) ∙ h.2, (left_kept k.0 k.1).1 (subst (IsSatisfied w) k.2 h.3))

    forbid_left : HasNoForbid w ps → HasNoForbid w (all_residuals (response_of s n ps))
    forbid_left h q c e i = let k = left_from s n ps q c in h k.0 k.1 (ap (λ (x : Policy). x.effect) (sym k.2) ∙ e) ((left_kept k.0 k.1).1 (subst (IsSatisfied w) k.2 i))

    forbid_before : HasNoForbid w (all_residuals (response_of s n ps)) → HasNoForbid w ps
    forbid_before h p c e i = h (left_of s n ps p) (left_has s n ps p c) e ((left_kept p c).0 i)

    pub left_decision : decision_of w (all_residuals (response_of s n ps)) ≡ decision_of w ps
    left_decision =
        let left = all_residuals (response_of s n ps) in
        same_decision (decision_of w left) (decision_of w ps) (λ e. let h = (allow_is_earned w left).0 e in (allow_is_earned w ps).1 (permit_before h.0, forbid_before h.1))
        (λ e. let h = (allow_is_earned w ps).0 e in (allow_is_earned w left).1 (permit_left h.0, forbid_left h.1))

pub responses_are_completed : (s : Scope) → Agrees s → AllMadeWell s → (n : ℕ) (ps : List Policy) (w : World) → Completes w s → FitConditions w ps → CompletesResponse w (response_of s n ps)
responses_are_completed s agrees well n ps w complete fits = response_completed w s agrees complete well n ps fits

-- a policy that is found by its id is among those that are left
found_case : (b : Bool) (x p : Policy) (xs : List Policy) (o : Option Policy) → cond b (Some x) o ≡ Some p → (o ≡ Some p → Contains xs p) → Contains (x ∷ xs) p
found_case true x p xs o e h = let same : x ≡ p = cc in subst (Contains (x ∷ xs)) same (contains_head x xs)
found_case false x p xs o e h = contains_tail x xs p (h e)

found_in : (i : Text) (xs : List Policy) (p : Policy) → find (λ p. bytes_eq i p.id) xs ≡ Some p → Contains xs p
found_in i [] p e = cc
found_in i (x ∷ xs) p e = found_case (bytes_eq i x.id) x p xs (find (λ p. bytes_eq i p.id) xs) e (found_in i xs p)

listed : (a b c d e f : List Policy) (p : Policy) → Contains ((c ++ (a ++ b)) ++ (f ++ (d ++ e))) p → Contains ((a ++ (b ++ c)) ++ (d ++ (e ++ f))) p
listed a b c d e f p k =
    ⊎_elim (λ h. Contains-append_left (a ++ (b ++ c)) (d ++ (e ++ f)) p (three_has a b c p (first_last a b c p (three_from c a b p h))))
    (λ h. Contains-append_right (a ++ (b ++ c)) (d ++ (e ++ f)) p (three_has d e f p (first_last d e f p (three_from f d e p h)))) (Contains-append_cases (c ++ (a ++ b)) (f ++ (d ++ e)) p k)

get_is_left : (r : Response) (i : Text) (p : Policy) → get r i ≡ Some p → Contains (all_residuals r) p
get_is_left r i p e =
    listed (of_true permit r.true_permits) (of_false permit r.false_permits) (of_residual permit r.residual_permits) (of_true forbid r.true_forbids) (of_false forbid r.false_forbids)
    (of_residual forbid r.residual_forbids) p
    (found_in i ((of_residual permit r.residual_permits ++ (of_true permit r.true_permits ++ of_false permit r.false_permits)) ++
    (of_residual forbid r.residual_forbids ++ (of_true forbid r.true_forbids ++ of_false forbid r.false_forbids))) p e)

-- One reauthorizing: the world completes the scope of the new response.
record IsRemade (w : World) (x : Step) (r q : Response) : Type 0 where
  request : PartialRequest
  completes : Completes w (resumed x.scope x.values request)
  well : AllMadeWell (resumed x.scope x.values request)
  distinct : AreDistinct (ids (all_residuals r))
  same : q ≡ response_of (resumed x.scope x.values request) x.depth (all_residuals r)

remade : (w : World) (x : Step) → FitsStep w x → (r q : Response) → CompletesResponse w r → reauthorized x.scope x.depth x.values r ≡ makes_it q → IsRemade w x r q
remade w x f r q h e =
    let p = parts_of x.scope x.depth x.values r q e in
    let b = p.1 in
    let k = request_completes w x.scope f.agrees f.made f.completes x.values f.binds r.request b.0 h.request b.1 in
    record {
      request = b.0;
      completes = resumed_completes w x.scope f.agrees f.made f.completes x.values f.binds b.0 k;
      well = resumed_well w x.scope f.agrees f.made f.completes x.values f.binds b.0 k;
      distinct = p.0;
      same = b.2;
    }

module _ (w : World) (x : Step) (f : FitsStep w x) (r q : Response) (h : CompletesResponse w r) (e : reauthorized x.scope x.depth x.values r ≡ makes_it q) where
  pub reauthorizing_completes : CompletesResponse w q
  reauthorizing_completes =
      let new = remade w x f r q h e in
      subst (CompletesResponse w) (sym new.same) (response_completed w (resumed x.scope x.values new.request) f.agrees new.completes new.well x.depth (all_residuals r) h.fits)

  pub reauthorizing_keeps : met_limit q ≡ false → (i : Text) (p : Policy) → get r i ≡ Some p → IsKept w q p
  reauthorizing_keeps met i p k =
      let new = remade w x f r q h e in
      subst (λ y. IsKept w y p) (sym new.same)
      (keeps_satisfied (resumed x.scope x.values new.request) f.agrees new.well x.depth (all_residuals r) new.distinct (ap met_limit (sym new.same) ∙ met) w new.completes h.fits p
      (get_is_left r i p k))

  pub reauthorizing_decides : (d : Decision) → decision_in_session q ≡ Some d → d ≡ decision_of w (all_residuals r)
  reauthorizing_decides d k =
      let new = remade w x f r q h e in
      given (resumed x.scope x.values new.request) f.agrees new.well x.depth (all_residuals r) d (ap decision_in_session (sym new.same) ∙ k) w new.completes h.fits

  reauthorizing_leaves : met_limit q ≡ false → decision_of w (all_residuals q) ≡ decision_of w (all_residuals r)
  reauthorizing_leaves met =
      let new = remade w x f r q h e in
      ap (λ y. decision_of w (all_residuals y)) new.same
      ∙ left_decision w (resumed x.scope x.values new.request) f.agrees new.completes new.well x.depth (all_residuals r) h.fits (ap met_limit (sym new.same) ∙ met)

-- What holds at each response of a chain: it is completed, each policy is kept, and it decides as the policies do.
record Holds (w : World) (ps : List Policy) (r : Response) : Type 0 where
  completed : CompletesResponse w r
  keeps : (p : Policy) → Contains ps p → IsKept w r p
  left : decision_of w (all_residuals r) ≡ decision_of w ps
  decides : (d : Decision) → decision_in_session r ≡ Some d → d ≡ decision_of w ps

kept_again : (w : World) (r q : Response) (p : Policy) → IsKept w r p → ((i : Text) (p : Policy) → get r i ≡ Some p → IsKept w q p) → IsKept w q p
kept_again w r q p h k =
    let x = h.0 in
    let m = k p.id x h.1 in
    (m.0, ap (get q) (sym h.2) ∙ m.1, m.2 ∙ h.2, m.3 ∙ h.3, (λ i. (m.4).0 ((h.4).0 i), λ i. (h.4).1 ((m.4).1 i)))

module _ (w : World) (s : Scope) (n : ℕ) (ps : List Policy) (begins : BeginsIn w s n ps) where
  holds_first : Holds w ps (response_of s n ps)
  holds_first =
      record {
        completed = response_completed w s begins.agrees begins.completes begins.made n ps begins.fits;
        keeps = keeps_satisfied s begins.agrees begins.made n ps begins.distinct begins.within w begins.completes begins.fits;
        left = left_decision w s begins.agrees begins.completes begins.made n ps begins.fits begins.within;
        decides = λ d e. given s begins.agrees begins.made n ps d e w begins.completes begins.fits;
      }

  holds_next : (x : Step) (r q : Response) → Holds w ps r → FitsStep w x → reauthorized x.scope x.depth x.values r ≡ makes_it q → met_limit q ≡ false → Holds w ps q
  holds_next x r q h f e met =
      let c = h.completed in
      record {
        completed = reauthorizing_completes w x f r q c e;
        keeps = λ p i. kept_again w r q p (h.keeps p i) (reauthorizing_keeps w x f r q c e met);
        left = reauthorizing_leaves w x f r q c e met ∙ h.left;
        decides = λ d k. reauthorizing_decides w x f r q c e d k ∙ h.left;
      }

  holds_at_end : (r : Response) (xs : List Step) (q : Response) → Holds w ps r → Chain w r xs q → Holds w ps q
  holds_at_end r [] q h c = subst (Holds w ps) c h
  holds_at_end r (x ∷ xs) q h c = holds_at_end c.0 xs q (holds_next x r c.0 h c.1 c.2 c.3) c.4

  pub chains_keep : (xs : List Step) (q : Response) → Chain w (response_of s n ps) xs q → (p : Policy) → Contains ps p → IsKept w q p
  chains_keep xs q c = (holds_at_end (response_of s n ps) xs q holds_first c).keeps

  pub chains_decide : (xs : List Step) (q : Response) → Chain w (response_of s n ps) xs q → (d : Decision) → decision_in_session q ≡ Some d → d ≡ decision_of w ps
  chains_decide xs q c = (holds_at_end (response_of s n ps) xs q holds_first c).decides

  pub chains_agree : (xs : List Step) (q : Response) → Chain w (response_of s n ps) xs q → (t : Scope) → Agrees t → AllMadeWell t → Completes w t → (m : ℕ) (d e : Decision)
      → decision_in_session q ≡ Some d → decision_in_session (response_of t m ps) ≡ Some e → d ≡ e
  chains_agree xs q c t agrees well complete m d e h k = chains_decide xs q c d h ∙ sym (given t agrees well m ps e k w complete begins.fits)
