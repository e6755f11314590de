-- Decisions and bounds of a session hold in every completion.
use Rattle.std.proofs.Common.{◌≡◌, ℕ, Bool, true, false, cond, List, [], ◌∷◌, ◌++◌, refl, sym, ap, ◌∙◌, subst, ◌⊎◌, inl, inr, ⊎_elim}
use Rattle.std.specs.Prelude.{Option, Some, None, Contains, map}
use Rattle.std.specs.List.{list_any}
use Rattle.std.specs.Str.{bytes_eq}
use Rattle.std.proofs.lemmas.List.Elements.{All-contains, Contains-append_left, Contains-append_right}
use Rattle.std.proofs.lemmas.Slice.Eq.{bytes_eq-Decides}
use Rattle.cedar_expr_model.specs.Name.{Text}
use Rattle.cedar_expr_model.specs.Value.{truth}
use Rattle.cedar_expr_model.specs.Tree.{Tree, lit}
use Rattle.cedar_expr_model.proofs.Lists.{contains_head, contains_none, filter_has, filter_only, any_has, any_from, map_has, map_from}
use Rattle.cedar_store_model.specs.World.{World}
use Rattle.cedar_store_model.specs.Policy.{Policy, Effect, permit, forbid, condition}
use Rattle.cedar_store_model.specs.Answer.{Decision, allow, deny, IsSatisfied, satisfied, ids, decision_of, reasons_of}
use Rattle.cedar_store_model.specs.AnswerLaws.{deciding}
use Rattle.cedar_store_model.proofs.Answers.{allow_is_earned}
use Rattle.cedar_store_model.proofs.Conditions.{satisfied-Decides}
use Rattle.cedar_store_model.proofs.Reports.{reasons_are_those}
use Rattle.cedar_evaluator_model.specs.Scope.{Scope}
use Rattle.cedar_evaluator_model.specs.OfLaws.Calls.{Agrees}
use Rattle.cedar_evaluator_model.specs.OfLaws.WellMade.{AllMadeWell}
use Rattle.cedar_evaluator_model.specs.Completion.{FitsAnnotations}
use Rattle.cedar_evaluator_model.specs.OfLaws.Completing.{Completes}
use Rattle.cedar_evaluator_model.specs.Response.{Noted, verdict, noted, if_true, if_residual, group, response_of}
use Rattle.cedar_evaluator_model.specs.Members.{left_policy, of_true, of_residual, decided_by, decision, if_none, met_limit, decision_in_session, must_be_determining, may_be_determining, Bounds, in_order, bounds_in_session}
use Rattle.cedar_evaluator_model.specs.ResponseLaws.{FitConditions, AreAmong}
use Rattle.cedar_evaluator_model.proofs.Limits.{not_met}
use Rattle.cedar_evaluator_model.proofs.Residuals.Policies.{Told, verdict_told, satisfied_verdict, true_satisfied}
use Rattle.cedar_evaluator_model.proofs.Residuals.Groups.{group_has, group_from, true_taken, residual_taken, true_only}

-- sessions
unless_case : {A : Type 0} (b : Bool) (o : Option A) (a : A) → cond b None o ≡ Some a → (b ≡ false) × (o ≡ Some a)
unless_case true o a e = cc
unless_case false o a e = (refl, e)

-- what a decision rests on: a satisfied forbid; no permit that is satisfied or residual; a satisfied permit and no such forbid
decided_parts : {A B C D : Type 0} (ps : List A) (ls : List B) (fs : List C) (ms : List D) (d : Decision) → decided_by ps ls fs ms ≡ Some d
    → ((d ≡ deny) × ((f : C) × Contains fs f)) ⊎ (((d ≡ deny) × (ps ≡ []) × (ls ≡ [])) ⊎ ((d ≡ allow) × ((p : A) × Contains ps p) × (fs ≡ []) × (ms ≡ [])))
decided_parts ps ls (f ∷ fs) ms d e = let k : d ≡ deny = cc in inl (k, (f, contains_head f fs))
decided_parts [] [] [] ms d e = let k : d ≡ deny = cc in inr (inl (k, refl, refl))
decided_parts [] (l ∷ ls) [] ms d e = cc
decided_parts (p ∷ ps) ls [] [] d e = let k : d ≡ allow = cc in inr (inr (k, (p, contains_head p ps), refl, refl))
decided_parts (p ∷ ps) ls [] (m ∷ ms) d e = cc

not_allow : (d : Decision) → (d ≡ allow → ⊥) → deny ≡ d
not_allow allow h = absurd (h refl)
not_allow deny h = refl

-- the ids of policies that are left
left_from : (e : Effect) (ns : List Noted) (t : Tree) (i : Text) → Contains (ids (map (λ n. left_policy e n t) ns)) i → (n : Noted) × Contains ns n × (n.id ≡ i)
left_from e ns t i c =
    let k = map_from (λ p. p.id) (map (λ n. left_policy e n t) ns) i c in
    let r = map_from (λ n. left_policy e n t) ns k.0 k.1 in
    (r.0, r.1, ap (λ (p : Policy). p.id) r.2 ∙ k.2)

left_has : (e : Effect) (ns : List Noted) (t : Tree) (n : Noted) → Contains ns n → Contains (map (λ n. left_policy e n t) ns) (left_policy e n t)
left_has e ns t n c = map_has (λ n. left_policy e n t) ns n c

residual_has : (e : Effect) (xs : List (Noted × Tree)) (x : Noted × Tree) → Contains xs x → Contains (of_residual e xs) (left_policy e x.0 x.1)
residual_has e xs x c = map_has (λ n. left_policy e n.0 n.1) xs x c

-- what stands among those that must determine, or may
must_case : (ps fs : List Noted) (ls : List (Noted × Tree)) (i : Text) → Contains (ids (if_none fs (if_none ls (of_true permit ps) (of_true forbid fs)) (of_true forbid fs))) i
    → ((a : Noted) × Contains fs a × (a.id ≡ i)) ⊎ ((fs ≡ []) × (ls ≡ []) × ((a : Noted) × Contains ps a × (a.id ≡ i)))
must_case ps [] [] i c = inr (refl, refl, left_from permit ps (lit (truth true)) i c)
must_case ps [] (l ∷ ls) i c = absurd (contains_none i c)
must_case ps (f ∷ fs) ls i c = inl (left_from forbid (f ∷ fs) (lit (truth true)) i c)

abbrev among_may : List Noted → List (Noted × Tree) → List Noted → List (Noted × Tree) → List Policy
among_may ps ls fs ms = if_none fs (of_true permit ps ++ (of_residual permit ls ++ of_residual forbid ms)) (of_true forbid fs ++ of_residual forbid ms)

abbrev IsIn : List Noted → List (Noted × Tree) → Noted → Type 0
IsIn ps ls a = Contains ps a ⊎ ((r : Tree) × Contains ls (a, r))

may_permit : (ps : List Noted) (ls : List (Noted × Tree)) (fs : List Noted) (ms : List (Noted × Tree)) (a : Noted) → fs ≡ [] → IsIn ps ls a → Contains (ids (among_may ps ls fs ms)) a.id
may_permit ps ls fs ms a e (inl c) =
    subst (λ xs. Contains (ids (among_may ps ls xs ms)) a.id) (sym e)
    (map_has (λ p. p.id) _ (left_policy permit a (lit (truth true))) (Contains-append_left (of_true permit ps) _ _ (left_has permit ps (lit (truth true)) a c)))
may_permit ps ls fs ms a e (inr (r, c)) =
    subst (λ xs. Contains (ids (among_may ps ls xs ms)) a.id) (sym e)
    (map_has (λ p. p.id) _ (left_policy permit a r)
    (Contains-append_right (of_true permit ps) _ _ (Contains-append_left (of_residual permit ls) (of_residual forbid ms) _ (residual_has permit ls (a, r) c))))

may_forbid : (ps : List Noted) (ls : List (Noted × Tree)) (fs : List Noted) (ms : List (Noted × Tree)) (a : Noted) → IsIn fs ms a → Contains (ids (among_may ps ls fs ms)) a.id
may_forbid ps ls [] ms a (inl c) = absurd (contains_none a c)
may_forbid ps ls [] ms a (inr (r, c)) =
    map_has (λ p. p.id) _ (left_policy forbid a r)
    (Contains-append_right (of_true permit ps) _ _ (Contains-append_right (of_residual permit ls) (of_residual forbid ms) _ (residual_has forbid ms (a, r) c)))
may_forbid ps ls (f ∷ fs) ms a (inl c) =
    map_has (λ p. p.id) (of_true forbid (f ∷ fs) ++ of_residual forbid ms) (left_policy forbid a (lit (truth true)))
    (Contains-append_left (of_true forbid (f ∷ fs)) (of_residual forbid ms) _ (left_has forbid (f ∷ fs) (lit (truth true)) a c))
may_forbid ps ls (f ∷ fs) ms a (inr (r, c)) =
    map_has (λ p. p.id) (of_true forbid (f ∷ fs) ++ of_residual forbid ms) (left_policy forbid a r)
    (Contains-append_right (of_true forbid (f ∷ fs)) (of_residual forbid ms) _ (residual_has forbid ms (a, r) c))

-- the ids of a list in the order of the policies
in_order_only : (ps : List Policy) (is : List Text) (i : Text) → Contains (in_order ps is) i → Contains is i
in_order_only ps is i c =
    let k = filter_only (λ i. list_any (bytes_eq i) is) (ids ps) i c in
    let r = any_from (bytes_eq i) is k.1 in
    subst (Contains is) (sym ((bytes_eq-Decides i r.0).0 r.2)) r.1

in_order_has : (ps : List Policy) (is : List Text) (i : Text) → Contains (ids ps) i → Contains is i → Contains (in_order ps is) i
in_order_has ps is i c d = filter_has (λ i. list_any (bytes_eq i) is) (ids ps) i c (any_has (bytes_eq i) is i d ((bytes_eq-Decides i i).1 refl))

none_of : {A : Type 0} (xs : List A) → ((x : A) → Contains xs x → ⊥) → xs ≡ []
none_of [] h = refl
none_of (x ∷ xs) h = absurd (h x (contains_head x xs))

module _ (w : World) (s : Scope) (agrees : Agrees s) (complete : Completes w s) (well : AllMadeWell s) (n : ℕ) (ps : List Policy) (fits : FitConditions w ps) where
  told_of : (p : Policy) → Contains ps p → Told w (satisfied w p) (verdict s n p)
  told_of p c = verdict_told w s agrees complete well n p (All-contains (λ p. FitsAnnotations w (condition p)) ps p fits c)

  -- a policy of a group of satisfied ones is satisfied
  true_from : (e : Effect) (a : Noted) → Contains (group e (λ p. if_true p (verdict s n p)) ps) a → (p : Policy) × Contains ps p × (p.effect ≡ e) × IsSatisfied w p × (p.id ≡ a.id)
  true_from e a c =
      let k = group_from e (λ p. if_true p (verdict s n p)) ps a c in
      let p = k.0 in
      let r = true_only p (verdict s n p) a k.3 in
      (p, k.1, k.2, (satisfied-Decides w p).0 (true_satisfied w (satisfied w p) (verdict s n p) (told_of p k.1) r.0), ap (λ (m : Noted). m.id) (sym r.1))

  module _ (met : met_limit (response_of s n ps) ≡ false) where
    -- a satisfied policy stands in the group of satisfied ones of its effect, or in that of residual ones
    satisfied_in : (e : Effect) (p : Policy) → Contains ps p → p.effect ≡ e → IsSatisfied w p
        → IsIn (group e (λ p. if_true p (verdict s n p)) ps) (group e (λ p. if_residual p (verdict s n p)) ps) (noted p)
    satisfied_in e p c h i =
        ⊎_elim (λ t. inl (group_has e (λ p. if_true p (verdict s n p)) ps p (noted p) c h (true_taken p (verdict s n p) t)))
        (λ t. inr (t.0, group_has e (λ p. if_residual p (verdict s n p)) ps p (noted p, t.0) c h (residual_taken p (verdict s n p) t.0 t.1)))
        (satisfied_verdict w (satisfied w p) (verdict s n p) (not_met s n ps met p c) (told_of p c) ((satisfied-Decides w p).1 i))

    none_satisfied : (e : Effect) → group e (λ p. if_true p (verdict s n p)) ps ≡ [] → group e (λ p. if_residual p (verdict s n p)) ps ≡ [] → (p : Policy) → Contains ps p → p.effect ≡ e
        → IsSatisfied w p → ⊥
    none_satisfied e t r p c h i =
        ⊎_elim (λ k. contains_none (noted p) (subst (λ xs. Contains xs (noted p)) t k)) (λ k. contains_none (noted p, k.0) (subst (λ xs. Contains xs (noted p, k.0)) r k.1))
        (satisfied_in e p c h i)

    -- the decision in the world
    denied_by : (f : Noted) → Contains (group forbid (λ p. if_true p (verdict s n p)) ps) f → deny ≡ decision_of w ps
    denied_by f c = not_allow (decision_of w ps) (λ h. let k = true_from forbid f c in ((allow_is_earned w ps).0 h).1 k.0 k.1 k.2 k.3)

    denied : group permit (λ p. if_true p (verdict s n p)) ps ≡ [] → group permit (λ p. if_residual p (verdict s n p)) ps ≡ [] → deny ≡ decision_of w ps
    denied t r = not_allow (decision_of w ps) (λ h. let k = ((allow_is_earned w ps).0 h).0 in none_satisfied permit t r k.0 k.1 k.2 k.3)

    allowed : (a : Noted) → Contains (group permit (λ p. if_true p (verdict s n p)) ps) a → group forbid (λ p. if_true p (verdict s n p)) ps ≡ []
        → group forbid (λ p. if_residual p (verdict s n p)) ps ≡ [] → allow ≡ decision_of w ps
    allowed a c t r =
        let k = true_from permit a c in
        sym ((allow_is_earned w ps).1 ((k.0, k.1, k.2, k.3), none_satisfied forbid t r))

    decision_there : (d : Decision) → decision (response_of s n ps) ≡ Some d → d ≡ decision_of w ps
    decision_there d e =
        let q = response_of s n ps in
        ⊎_elim (λ h. h.0 ∙ denied_by h.1.0 h.1.1) (λ k. ⊎_elim (λ h. h.0 ∙ denied h.1 h.2) (λ h. h.0 ∙ allowed h.1.0 h.1.1 h.2 h.3) k)
        (decided_parts q.true_permits q.residual_permits q.true_forbids q.residual_forbids d e)

    -- reasons
    must_among : (i : Text) → Contains (ids (must_be_determining (response_of s n ps))) i → Contains (reasons_of w ps) i
    must_among i c =
        let q = response_of s n ps in
        ⊎_elim (λ h. let k = true_from forbid h.0 h.1 in (reasons_are_those w ps i).1 (k.0, k.1, k.2 ∙ ap deciding (denied_by h.0 h.1), k.3, k.4 ∙ h.2))
        (λ h. let a = h.2 in let k = true_from permit a.0 a.1 in (reasons_are_those w ps i).1 (k.0, k.1, k.2 ∙ ap deciding (allowed a.0 a.1 h.0 h.1), k.3, k.4 ∙ a.2))
        (must_case q.true_permits q.true_forbids q.residual_forbids i c)

    may_case : (d : Decision) → d ≡ decision_of w ps → (p : Policy) → Contains ps p → p.effect ≡ deciding d → IsSatisfied w p → Contains (ids (may_be_determining (response_of s n ps))) p.id
    may_case allow e p c h i =
        let q = response_of s n ps in
        let none = none_of q.true_forbids (λ f k. let no : deny ≡ allow = denied_by f k ∙ sym e in cc) in
        may_permit q.true_permits q.residual_permits q.true_forbids q.residual_forbids (noted p) none (satisfied_in permit p c h i)
    may_case deny e p c h i = let q = response_of s n ps in may_forbid q.true_permits q.residual_permits q.true_forbids q.residual_forbids (noted p) (satisfied_in forbid p c h i)

    among_may_be : (i : Text) → Contains (reasons_of w ps) i → Contains (in_order ps (ids (may_be_determining (response_of s n ps)))) i
    among_may_be i c =
        let k = (reasons_are_those w ps i).0 c in
        let p = k.0 in
        in_order_has ps (ids (may_be_determining (response_of s n ps))) i (subst (Contains (ids ps)) k.4 (map_has (λ p. p.id) ps p k.1))
        (subst (Contains (ids (may_be_determining (response_of s n ps)))) k.4 (may_case (decision_of w ps) refl p k.1 k.2 k.3))

pub given : (s : Scope) → Agrees s → AllMadeWell s → (n : ℕ) (ps : List Policy) (d : Decision) → decision_in_session (response_of s n ps) ≡ Some d → (w : World) → Completes w s
    → FitConditions w ps → d ≡ decision_of w ps
given s agrees well n ps d e w complete fits =
    let k = unless_case (met_limit (response_of s n ps)) (decision (response_of s n ps)) d e in
    decision_there w s agrees complete well n ps fits k.0 d k.1

pub bounds_hold : (s : Scope) → Agrees s → AllMadeWell s → (n : ℕ) (ps : List Policy) (b : Bounds) → bounds_in_session ps (response_of s n ps) ≡ Some b → (w : World) → Completes w s
    → FitConditions w ps → AreAmong b.must (reasons_of w ps) × AreAmong (reasons_of w ps) b.may
bounds_hold s agrees well n ps b e w complete fits =
    let q = response_of s n ps in
    let k = unless_case (met_limit q) (Some (record { must = in_order ps (ids (must_be_determining q)); may = in_order ps (ids (may_be_determining q)) })) b e in
    let same : record { must = in_order ps (ids (must_be_determining q)); may = in_order ps (ids (may_be_determining q)) } ≡ b = cc in
    subst (λ b. AreAmong b.must (reasons_of w ps) × AreAmong (reasons_of w ps) b.may) same
    (λ i c. must_among w s agrees complete well n ps fits k.0 i (in_order_only ps (ids (must_be_determining q)) i c), among_may_be w s agrees complete well n ps fits k.0)
