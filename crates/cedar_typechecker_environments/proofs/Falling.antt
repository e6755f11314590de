-- Keys that all rise or all fall: the first two tell which, and keys that fall rise in the other order.
use Rattle.std.proofs.Common.{◌≡◌, ◌⊎◌, inl, inr, Bool, true, false, List, [], ◌∷◌, ◌++◌, reverse, refl, sym, ap, subst, ◌∙◌}
use Rattle.std.specs.Prelude.{if◌then◌else◌}
use Rattle.std.specs.Ordering.{is_gt, ordering_reverse}
use Rattle.std.specs.Cmp.{IsTotalOrder}
use Rattle.std.specs.List.{AllByRecursion}
use Rattle.std.specs.List.Sorted.{IsStrictlySortedBy}
use Rattle.std.specs.declared.cmp.Ordering.{Ordering}
use Rattle.std.specs.declared.cmp.Ordering.TheVariants.{Less, Equal, Greater}
use Rattle.std.proofs.lemmas.Grind.{reverse_onto}
use Rattle.cedar_typechecker_environments.specs.Along.{RiseOrFall, first_falls}

module _ {K : Type 0} where
  pub all_last : (P : K → Type 0) (xs : List K) (x : K) → AllByRecursion P xs → P x → AllByRecursion P (xs ++ x ∷ [])
  all_last P [] x a p = (p, tt)
  all_last P (y ∷ ys) x a p = (a.0, all_last P ys x a.1 p)

  turned : (x : K) (xs : List K) → reverse (x ∷ xs) ≡ reverse xs ++ x ∷ []
  turned x xs = reverse_onto xs x []

  all_turned : (P : K → Type 0) (xs : List K) → AllByRecursion P xs → AllByRecursion P (reverse xs)
  all_turned P [] a = tt
  all_turned P (x ∷ xs) a = subst (AllByRecursion P) (sym (turned x xs)) (all_last P (reverse xs) x (all_turned P xs a.1) a.0)

  module _ (R : K → K → Ordering) where
    rising_last : (xs : List K) (x : K) → IsStrictlySortedBy R xs → AllByRecursion (λ y. R y x ≡ Less) xs → IsStrictlySortedBy R (xs ++ x ∷ [])
    unfolding IsStrictlySortedBy
    rising_last [] x s a = (tt, tt)
    rising_last (y ∷ ys) x s a = (all_last (λ z. R y z ≡ Less) ys x s.0 a.0, rising_last ys x s.1 a.1)

    turned_rises : (xs : List K) → IsStrictlySortedBy (λ a b. R b a) xs → IsStrictlySortedBy R (reverse xs)
    unfolding IsStrictlySortedBy
    turned_rises [] s = tt
    turned_rises (x ∷ xs) s = subst (IsStrictlySortedBy R) (sym (turned x xs)) (rising_last (reverse xs) x (turned_rises xs s.1) (all_turned (λ y. R y x ≡ Less) xs s.0))

  module _ {R : K → K → Ordering} (o : IsTotalOrder R) where
    below_is_not_above : (x y : K) → R x y ≡ Less → is_gt (R x y) ≡ true → ⊥
    below_is_not_above x y e h = let k = ap is_gt (sym e) ∙ h in absurd (cc)

    above : (x y : K) → R y x ≡ Less → is_gt (R x y) ≡ true
    above x y e = ap is_gt (o.antisymm x y ∙ ap ordering_reverse e)

    pub falling : (ks : List K) → RiseOrFall R ks → first_falls R ks ≡ true → IsStrictlySortedBy R (reverse ks)
    unfolding IsStrictlySortedBy
    falling [] h f = absurd (cc)
    falling (x ∷ []) h f = absurd (cc)
    falling (x ∷ (y ∷ ys)) (inl s) f = absurd (below_is_not_above x y s.0.0 f)
    falling (x ∷ (y ∷ ys)) (inr s) f = turned_rises R (x ∷ (y ∷ ys)) s

    pub rising : (ks : List K) → RiseOrFall R ks → first_falls R ks ≡ false → IsStrictlySortedBy R ks
    unfolding IsStrictlySortedBy
    rising [] h f = tt
    rising (x ∷ []) h f = (tt, tt)
    rising (x ∷ (y ∷ ys)) (inl s) f = s
    rising (x ∷ (y ∷ ys)) (inr s) f = let e = sym f ∙ above x y s.0.0 in absurd (cc)
