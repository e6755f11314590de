-- What is left of the policies in a response: each has one, which is found by its id and is satisfied exactly where the policy is.
use Rattle.std.proofs.Common.{◌≡◌, ℕ, Bool, true, false, cond, List, [], ◌∷◌, ◌++◌, refl, sym, ap, ◌∙◌, subst, ◌⊎◌, inl, inr, ⊎_elim}
use Rattle.std.specs.Prelude.{Option, Some, Contains, find}
use Rattle.std.specs.Str.{bytes_eq}
use Rattle.std.proofs.lemmas.List.Elements.{All-contains, Contains-append_left, Contains-append_right, Contains-append_cases}
use Rattle.std.proofs.lemmas.Slice.Eq.{bytes_eq-Decides}
use Rattle.cedar_expr_model.specs.Name.{Text}
use Rattle.cedar_expr_model.specs.Value.{truth}
use Rattle.cedar_expr_model.specs.ListLaws.{AreDistinct}
use Rattle.cedar_expr_model.specs.Tree.{Tree, lit}
use Rattle.cedar_expr_model.specs.Made.{made_prim}
use Rattle.cedar_expr_model.proofs.Lists.{contains_head, contains_tail, contains_cases, contains_none, map_has, map_from}
use Rattle.cedar_store_model.specs.World.{World}
use Rattle.cedar_store_model.specs.Policy.{Policy, Effect, permit, forbid, binding_of, condition}
use Rattle.cedar_store_model.specs.Answer.{IsSatisfied, satisfied, ids}
use Rattle.cedar_store_model.proofs.Conditions.{satisfied-Decides}
use Rattle.cedar_evaluator_model.specs.Scope.{Scope, Stop, Left, value_left, residual, stopped}
use Rattle.cedar_evaluator_model.specs.OfLaws.Calls.{Agrees}
use Rattle.cedar_evaluator_model.specs.Steps.{truth_left, on_value, truth_wanted}
use Rattle.cedar_evaluator_model.specs.Evaluation.{evaluated}
use Rattle.cedar_evaluator_model.specs.OfLaws.WellMade.{AllMadeWell}
use Rattle.cedar_evaluator_model.specs.Completion.{FitsAnnotations}
use Rattle.cedar_evaluator_model.specs.OfLaws.Completing.{Completes}
use Rattle.cedar_evaluator_model.specs.Response.{slots_bound, with_bindings, verdict, noted, if_true, if_false, if_residual, group, response_of}
use Rattle.cedar_evaluator_model.specs.Members.{left_policy, of_true, of_false, of_residual, all_residuals, get, met_limit}
use Rattle.cedar_evaluator_model.specs.ResponseLaws.{FitConditions, IsKept}
use Rattle.cedar_evaluator_model.proofs.Limits.{not_met}
use Rattle.cedar_evaluator_model.proofs.Residuals.Policies.{verdict_told, both_ways, tree_left, policy_left, kept}
use Rattle.cedar_evaluator_model.proofs.Residuals.Groups.{group_has, group_from, true_taken, residual_taken, true_only, residual_only, IsFalse, false_only, false_taken}

-- three lists in a row
abbrev InThree : {X : Type 0} → List X → List X → List X → X → Type 0
InThree a b c x = Contains a x ⊎ (Contains b x ⊎ Contains c x)

pub three_has : {X : Type 0} (a b c : List X) (x : X) → InThree a b c x → Contains (a ++ (b ++ c)) x
three_has a b c x (inl k) = Contains-append_left a (b ++ c) x k
three_has a b c x (inr (inl k)) = Contains-append_right a (b ++ c) x (Contains-append_left b c x k)
three_has a b c x (inr (inr k)) = Contains-append_right a (b ++ c) x (Contains-append_right b c x k)

pub three_from : {X : Type 0} (a b c : List X) (x : X) → Contains (a ++ (b ++ c)) x → InThree a b c x
three_from a b c x k = ⊎_elim (λ h. inl h) (λ h. inr (Contains-append_cases b c x h)) (Contains-append_cases a (b ++ c) x k)

last_first : {X : Type 0} (a b c : List X) (x : X) → InThree a b c x → InThree c a b x
last_first a b c x (inl k) = inr (inl k)
last_first a b c x (inr (inl k)) = inr (inr k)
last_first a b c x (inr (inr k)) = inl k

pub first_last : {X : Type 0} (a b c : List X) (x : X) → InThree c a b x → InThree a b c x
first_last a b c x (inl k) = inr (inr k)
first_last a b c x (inr (inl k)) = inl k
first_last a b c x (inr (inr k)) = inr (inl k)

-- permits, then forbids
effect_has : {X : Type 0} (f : Effect → List X) (e : Effect) (x : X) → Contains (f e) x → Contains (f permit ++ f forbid) x
effect_has f permit x k = Contains-append_left (f permit) (f forbid) x k
effect_has f forbid x k = Contains-append_right (f permit) (f forbid) x k

effect_from : {X : Type 0} (f : Effect → List X) (x : X) → Contains (f permit ++ f forbid) x → (e : Effect) × Contains (f e) x
effect_from f x k = ⊎_elim (λ h. (permit, h)) (λ h. (forbid, h)) (Contains-append_cases (f permit) (f forbid) x k)

-- a verdict is a truth value, a residual, or it stopped
abbrev IsVerdict : Left → Type 0
IsVerdict l = ((b : Bool) × (l ≡ truth_left b)) ⊎ (((r : Tree) × (l ≡ residual r)) ⊎ ((s : Stop) × (l ≡ stopped s)))

is_verdict : (bound : Tree → Tree) (l : Left) → IsVerdict (on_value l truth_wanted (λ r. residual (bound r)))
is_verdict bound (value_left (made_prim (truth b))) = inl (b, refl)
is_verdict bound (value_left m) = inr (inr (_, refl))
is_verdict bound (residual r) = inr (inl (bound r, refl))
is_verdict bound (stopped s) = inr (inr (s, refl))

module _ (s : Scope) (n : ℕ) (ps : List Policy) where
  -- what is left of a policy, and the groups of an effect as policies
  abbrev pub left_of : Policy → Policy
  left_of p = policy_left p (verdict s n p)

  abbrev trues : Effect → List Policy
  trues e = of_true e (group e (λ p. if_true p (verdict s n p)) ps)

  abbrev falses : Effect → List Policy
  falses e = of_false e (group e (λ p. if_false p (verdict s n p)) ps)

  abbrev residuals : Effect → List Policy
  residuals e = of_residual e (group e (λ p. if_residual p (verdict s n p)) ps)

  same_left : (e : Effect) (p : Policy) (t : Tree) → p.effect ≡ e → tree_left (verdict s n p) ≡ t → left_policy e (noted p) t ≡ left_of p
  same_left e p t h k = λ i. left_policy (sym h i) (noted p) (sym k i)

  in_trues : (e : Effect) (p : Policy) → Contains ps p → p.effect ≡ e → verdict s n p ≡ truth_left true → Contains (trues e) (left_of p)
  in_trues e p c h k =
      subst (Contains (trues e)) (same_left e p (lit (truth true)) h (ap tree_left k))
      (map_has (λ a. left_policy e a (lit (truth true))) _ (noted p) (group_has e (λ p. if_true p (verdict s n p)) ps p (noted p) c h (true_taken p (verdict s n p) k)))

  in_falses : (e : Effect) (p : Policy) → Contains ps p → p.effect ≡ e → IsFalse (verdict s n p) → tree_left (verdict s n p) ≡ lit (truth false) → Contains (falses e) (left_of p)
  in_falses e p c h k t =
      let x = false_taken p (verdict s n p) k in
      let q = map_has (λ a. left_policy e a.0 (lit (truth false))) _ x.0 (group_has e (λ p. if_false p (verdict s n p)) ps p x.0 c h x.1) in
      subst (Contains (falses e)) (ap (λ a. left_policy e a (lit (truth false))) x.2 ∙ same_left e p (lit (truth false)) h t) q

  in_residuals : (e : Effect) (p : Policy) (r : Tree) → Contains ps p → p.effect ≡ e → verdict s n p ≡ residual r → Contains (residuals e) (left_of p)
  in_residuals e p r c h k =
      subst (Contains (residuals e)) (same_left e p r h (ap tree_left k))
      (map_has (λ a. left_policy e a.0 a.1) _ (noted p, r) (group_has e (λ p. if_residual p (verdict s n p)) ps p (noted p, r) c h (residual_taken p (verdict s n p) r k)))

  by_truth : (e : Effect) (p : Policy) (b : Bool) → Contains ps p → p.effect ≡ e → verdict s n p ≡ truth_left b → InThree (trues e) (falses e) (residuals e) (left_of p)
  by_truth e p true c h k = inl (in_trues e p c h k)
  by_truth e p false c h k = inr (inl (in_falses e p c h (inl k) (ap tree_left k)))

  left_stands : (e : Effect) (p : Policy) → Contains ps p → p.effect ≡ e → InThree (trues e) (falses e) (residuals e) (left_of p)
  left_stands e p c h =
      ⊎_elim (λ k. by_truth e p k.0 c h k.1) (λ z. ⊎_elim (λ k. inr (inr (in_residuals e p k.0 c h k.1))) (λ k. inr (inl (in_falses e p c h (inr (k.0, k.1)) (ap tree_left k.1)))) z)
      (is_verdict (slots_bound (binding_of p.bindings)) (evaluated (with_bindings s p.bindings) n (condition p)))

  -- the policy that one is left of
  abbrev pub IsLeftOf : Policy → Type 0
  IsLeftOf q = (p : Policy) × Contains ps p × (q ≡ left_of p)

  from_trues : (e : Effect) (q : Policy) → Contains (trues e) q → IsLeftOf q
  from_trues e q c =
      let k = map_from (λ a. left_policy e a (lit (truth true))) (group e (λ p. if_true p (verdict s n p)) ps) q c in
      let g = group_from e (λ p. if_true p (verdict s n p)) ps k.0 k.1 in
      let p = g.0 in
      let o = true_only p (verdict s n p) k.0 g.3 in
      (p, g.1, sym k.2 ∙ ap (λ a. left_policy e a (lit (truth true))) o.1 ∙ same_left e p (lit (truth true)) g.2 (ap tree_left o.0))

  false_tree : (l : Left) → IsFalse l → tree_left l ≡ lit (truth false)
  false_tree l (inl k) = ap tree_left k
  false_tree l (inr k) = ap tree_left k.1

  from_falses : (e : Effect) (q : Policy) → Contains (falses e) q → IsLeftOf q
  from_falses e q c =
      let k = map_from (λ a. left_policy e a.0 (lit (truth false))) (group e (λ p. if_false p (verdict s n p)) ps) q c in
      let g = group_from e (λ p. if_false p (verdict s n p)) ps k.0 k.1 in
      let p = g.0 in
      let o = false_only p (verdict s n p) k.0 g.3 in
      (p, g.1, sym k.2 ∙ ap (λ a. left_policy e a (lit (truth false))) o.1 ∙ same_left e p (lit (truth false)) g.2 (false_tree (verdict s n p) o.0))

  from_residuals : (e : Effect) (q : Policy) → Contains (residuals e) q → IsLeftOf q
  from_residuals e q c =
      let k = map_from (λ a. left_policy e a.0 a.1) (group e (λ p. if_residual p (verdict s n p)) ps) q c in
      let g = group_from e (λ p. if_residual p (verdict s n p)) ps k.0 k.1 in
      let x = k.0 in
      let p = g.0 in
      let o = residual_only p (verdict s n p) x g.3 in
      (p, g.1, sym k.2 ∙ ap (λ a. left_policy e a x.1) o.1 ∙ same_left e p x.1 g.2 (ap tree_left o.0))

  stands_left : (e : Effect) (q : Policy) → InThree (trues e) (falses e) (residuals e) q → IsLeftOf q
  stands_left e q (inl k) = from_trues e q k
  stands_left e q (inr (inl k)) = from_falses e q k
  stands_left e q (inr (inr k)) = from_residuals e q k

  -- all that is left
  pub left_has : (p : Policy) → Contains ps p → Contains (all_residuals (response_of s n ps)) (left_of p)
  left_has p c =
      effect_has (λ e. trues e ++ (falses e ++ residuals e)) p.effect (left_of p) (three_has (trues p.effect) (falses p.effect) (residuals p.effect) (left_of p) (left_stands p.effect p c refl))

  pub left_from : (q : Policy) → Contains (all_residuals (response_of s n ps)) q → IsLeftOf q
  left_from q c = let k = effect_from (λ e. trues e ++ (falses e ++ residuals e)) q c in stands_left k.0 q (three_from (trues k.0) (falses k.0) (residuals k.0) q k.1)

  -- by id
  abbrev by_id : Effect → List Policy
  by_id e = residuals e ++ (trues e ++ falses e)

  found_has : (p : Policy) → Contains ps p → Contains (by_id permit ++ by_id forbid) (left_of p)
  found_has p c =
      effect_has by_id p.effect (left_of p)
      (three_has (residuals p.effect) (trues p.effect) (falses p.effect) (left_of p)
      (last_first (trues p.effect) (falses p.effect) (residuals p.effect) (left_of p) (left_stands p.effect p c refl)))

  found_from : (q : Policy) → Contains (by_id permit ++ by_id forbid) q → IsLeftOf q
  found_from q c = let k = effect_from by_id q c in stands_left k.0 q (first_last (trues k.0) (falses k.0) (residuals k.0) q (three_from (residuals k.0) (trues k.0) (falses k.0) q k.1))

-- the policy of an id, where policies of that id are the same
id_case : (b : Bool) (i : Text) (x q : Policy) (xs : List Policy) (o : Option Policy) → bytes_eq i x.id ≡ b → q.id ≡ i → Contains (x ∷ xs) q → (x.id ≡ i → x ≡ q) → (Contains xs q → o ≡ Some q)
    → cond b (Some x) o ≡ Some q
id_case true i x q xs o e h c same rest = ap Some (same (sym ((bytes_eq-Decides i x.id).0 e)))
id_case false i x q xs o e h c same rest =
    contains_cases (o ≡ Some q) x xs q c (λ k. let j : i ≡ x.id = sym h ∙ ap (λ (y : Policy). y.id) (sym k) in let t = (bytes_eq-Decides i x.id).1 j in cc) rest

with_id_found : (i : Text) (xs : List Policy) (q : Policy) → Contains xs q → q.id ≡ i → ((x : Policy) → Contains xs x → x.id ≡ i → x ≡ q) → find (λ p. bytes_eq i p.id) xs ≡ Some q
with_id_found i [] q c h same = absurd (contains_none q c)
with_id_found i (x ∷ xs) q c h same = id_case (bytes_eq i x.id) i x q xs (find (λ p. bytes_eq i p.id) xs) refl h c (same x (contains_head x xs)) (λ d. with_id_found i xs q d h (λ y k. same y (contains_tail x xs y k)))

-- distinct ids tell policies apart
distinct_case : (z : Policy) (ps : List Policy) (p : Policy) → ¬ (Contains (ids ps) z.id) → Contains ps p → z.id ≡ p.id → ⊥
distinct_case z ps p h c e = h (subst (Contains (ids ps)) (sym e) (map_has (λ p. p.id) ps p c))

ids_tell : (ps : List Policy) → AreDistinct (ids ps) → (p q : Policy) → Contains ps p → Contains ps q → p.id ≡ q.id → p ≡ q
ids_tell [] h p q c d e = absurd (contains_none p c)
ids_tell (z ∷ ps) h p q c d e =
    contains_cases (p ≡ q) z ps p c
    (λ i. contains_cases (p ≡ q) z ps q d (λ j. sym i ∙ j) (λ j. absurd (distinct_case z ps q h.0 j (ap (λ (y : Policy). y.id) i ∙ e))))
    (λ i. contains_cases (p ≡ q) z ps q d (λ j. absurd (distinct_case z ps p h.0 i (ap (λ (y : Policy). y.id) j ∙ sym e))) (λ j. ids_tell ps h.1 p q i j e))

pub found : (s : Scope) (n : ℕ) (ps : List Policy) → AreDistinct (ids ps) → (p : Policy) → Contains ps p → get (response_of s n ps) p.id ≡ Some (left_of s n ps p)
found s n ps h p c =
    with_id_found p.id (by_id s n ps permit ++ by_id s n ps forbid) (left_of s n ps p) (found_has s n ps p c) refl
    (λ x d e. let k = found_from s n ps x d in
    let same = ids_tell ps h k.0 p k.1 c (sym (ap (λ (y : Policy). y.id) k.2) ∙ e) in
    k.2 ∙ ap (left_of s n ps) same)

pub keeps_satisfied : (s : Scope) → Agrees s → AllMadeWell s → (n : ℕ) (ps : List Policy) → AreDistinct (ids ps) → met_limit (response_of s n ps) ≡ false → (w : World) → Completes w s
    → FitConditions w ps → (p : Policy) → Contains ps p → IsKept w (response_of s n ps) p
keeps_satisfied s agrees well n ps h met w complete fits p c =
    let q = left_of s n ps p in
    let t = verdict_told w s agrees complete well n p (All-contains (λ p. FitsAnnotations w (condition p)) ps p fits c) in (
      q,
      found s n ps h p c,
      refl,
      refl,
      both_ways (satisfied w p) (satisfied w q) (IsSatisfied w p) (IsSatisfied w q) (satisfied-Decides w p) (satisfied-Decides w q)
          (kept w p (verdict s n p) (not_met s n ps met p c) t),
    )
