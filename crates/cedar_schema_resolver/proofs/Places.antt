-- Names and their numbers in a list, and names that stand twice.
use Rattle.std.proofs.Common.{◌≡◌, ℕ, zero, suc, ◌<◌, List, [], ◌∷◌, ◌++◌, map, length, take, refl, sym, ap, ◌∙◌, subst, inl, inr, ⊎_elim, arith, length-append}
use Rattle.std.specs.Prelude.{Contains}
use Rattle.std.proofs.lemmas.List.{get_or_append_left, get_or_push}
use Rattle.std.proofs.lemmas.List.Elements.{Contains-push_cases}
use Rattle.cedar_expr_model.proofs.Lists.{contains_head, contains_tail, contains_cases, contains_none}
use Rattle.cedar_schema_model.specs.BagLaws.{HasTwice}
use Rattle.cedar_schema_resolver.specs.Numbers.{IsAt, StandsTwice, StoodBefore}

module _ {S : Type 0} where
  pub at_in : (xs : List S) (i : ℕ) (s : S) → IsAt xs i s → Contains xs s
  at_in xs i s h = (i, h.0, h.1)

  pub in_at : (xs : List S) (s : S) → Contains xs s → (i : ℕ) × IsAt xs i s
  in_at xs s h = (h.0, (h.1, h.2))

  pub at_kept : (xs ys : List S) (i : ℕ) (s : S) → IsAt xs i s → IsAt (xs ++ ys) i s
  at_kept xs ys i s h = let l = h.0 in (omega (arith, l, length-append xs ys), get_or_append_left xs ys s i l ∙ h.1)

  pub at_last : (xs : List S) (i : ℕ) (s : S) → length xs ≡ i → IsAt (xs ++ s ∷ []) i s
  at_last xs i s e = (omega (arith, e, length-append xs (s ∷ [])), get_or_push xs s s i e)

  pub at_some : (xs : List S) (i : ℕ) → i < length xs → (s : S) × IsAt xs i s
  at_some [] i l = absurd (omega (arith, l))
  at_some (x ∷ xs) zero l = (x, (omega arith, refl))
  at_some (x ∷ xs) (suc i) l = let r = at_some xs i (omega (arith, l)) in let m = r.1.0 in (r.0, (omega (arith, m), r.1.1))

  -- names that stand twice
  pub again_at : (xs : List S) (i : ℕ) (s : S) → IsAt xs i s → Contains (take i xs) s → StandsTwice xs s
  again_at [] i s h c = let l = h.0 in absurd (omega (arith, l))
  again_at (x ∷ xs) zero s h c = absurd (contains_none s c)
  again_at (x ∷ xs) (suc i) s h c =
      let l = h.0 in
      let a : IsAt xs i s = (omega (arith, l), h.1) in
      contains_cases (StandsTwice (x ∷ xs) s) x (take i xs) s c (λ e. inl (e, at_in xs i s a)) (λ k. inr (again_at xs i s a k))

  pub twice_of : (xs : List S) (s : S) → StandsTwice xs s → HasTwice xs
  twice_of [] s h = h
  twice_of (x ∷ xs) s h = ⊎_elim (λ p. inl (subst (Contains xs) (sym p.0) p.1)) (λ p. inr (twice_of xs s p)) h

  pub stood_twice : (xs : List S) (i : ℕ) → StoodBefore xs i → HasTwice xs
  stood_twice xs i h = twice_of xs h.0 (again_at xs i h.0 h.1 h.2)

  pub once_more : (xs : List S) (s : S) → (HasTwice xs → ⊥) → (Contains xs s → ⊥) → HasTwice (xs ++ s ∷ []) → ⊥
  once_more [] s t n h = ⊎_elim (λ c. contains_none s c) (λ k. k) h
  once_more (x ∷ xs) s t n h =
      ⊎_elim
      (λ c. ⊎_elim (λ k. t (inl k)) (λ e. n (subst (Contains (x ∷ xs)) (sym e) (contains_head x xs))) (Contains-push_cases xs s x c))
      (λ k. once_more xs s (λ m. t (inr m)) (λ c. n (contains_tail x xs s c)) k)
      h

  -- where none does, a name has one number
  pub one_place : (xs : List S) → (HasTwice xs → ⊥) → (i j : ℕ) (s : S) → IsAt xs i s → IsAt xs j s → i ≡ j
  one_place [] t i j s h k = let l = h.0 in absurd (omega (arith, l))
  one_place (x ∷ xs) t zero zero s h k = refl
  one_place (x ∷ xs) t zero (suc j) s h k = let l = k.0 in absurd (t (inl (subst (Contains xs) (sym h.1) (at_in xs j s (omega (arith, l), k.1)))))
  one_place (x ∷ xs) t (suc i) zero s h k = let l = h.0 in absurd (t (inl (subst (Contains xs) (sym k.1) (at_in xs i s (omega (arith, l), h.1)))))
  one_place (x ∷ xs) t (suc i) (suc j) s h k = let l = h.0 in let m = k.0 in ap suc (one_place xs (λ d. t (inr d)) i j s (omega (arith, l), h.1) (omega (arith, m), k.1))

-- What stands at a number in a list is seen at that number in the list of what is seen.
pub at_map : {N S : Type 0} (f : N → S) (xs : List N) (i : ℕ) (x : N) → IsAt xs i x → IsAt (map f xs) i (f x)
at_map f [] i x h = let l = h.0 in absurd (omega (arith, l))
at_map f (y ∷ ys) zero x h = (omega arith, ap f h.1)
at_map f (y ∷ ys) (suc i) x h = let l = h.0 in let r = at_map f ys i x (omega (arith, l), h.1) in let m = r.0 in (omega (arith, m), r.1)

pub at_one : {S : Type 0} (xs : List S) (i : ℕ) (s t : S) → IsAt xs i s → IsAt xs i t → s ≡ t
at_one [] i s t h k = let l = h.0 in absurd (omega (arith, l))
at_one (x ∷ xs) zero s t h k = sym h.1 ∙ k.1
at_one (x ∷ xs) (suc i) s t h k = let l = h.0 in let m = k.0 in at_one xs i s t (omega (arith, l), h.1) (omega (arith, m), k.1)
