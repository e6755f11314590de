-- Two rising lists walked side by side.
use Rattle.std.proofs.Common.{◌≡◌, ◌≤◌, true, false, not, ◌&&◌, List, [], ◌∷◌, length, refl, sym, ap, ◌∙◌, subst, arith}
use Rattle.std.specs.Ordering.{ordering_reverse}
use Rattle.std.specs.Cmp.{IsTotalOrder}
use Rattle.std.specs.List.{AllByRecursion}
use Rattle.std.specs.List.Sorted.{IsStrictlySortedBy}
use Rattle.std.specs.declared.cmp.Ordering.{Ordering}
use Rattle.std.specs.declared.cmp.Ordering.TheVariants.{Less, Equal, Greater}
use Rattle.std.proofs.lemmas.Cmp.{tied_back}
use Rattle.cedar_expr_values.specs.Rising.{is_among, all_among, none_among}
use Rattle.cedar_expr_values.proofs.Places.{below_each, tied_each}

module _ {A : Type 0} {R : A → A → Ordering} (o : IsTotalOrder R) where
  less : (x y : A) → R x y ≡ Greater → R y x ≡ Less
  less x y e = o.antisymm y x ∙ ap ordering_reverse e

  -- what stands above the first of those stands among the others or nowhere
  skips_below : (x y : A) (ys : List A) → R y x ≡ Less → is_among R x (y ∷ ys) ≡ is_among R x ys
  skips_below x y ys e = let f : R x y ≡ Greater = o.antisymm x y ∙ ap ordering_reverse e in rw f refl

  all_skip : (xs : List A) (y : A) (ys : List A) → AllByRecursion (λ x. R y x ≡ Less) xs → all_among R xs (y ∷ ys) ≡ all_among R xs ys
  all_skip [] y ys a = refl
  all_skip (x ∷ xs) y ys a = ap (λ t. t && all_among R xs (y ∷ ys)) (skips_below x y ys a.0) ∙ ap (λ t. is_among R x ys && t) (all_skip xs y ys a.1)

  none_skip : (xs : List A) (y : A) (ys : List A) → AllByRecursion (λ x. R y x ≡ Less) xs → none_among R xs (y ∷ ys) ≡ none_among R xs ys
  none_skip [] y ys a = refl
  none_skip (x ∷ xs) y ys a = ap (λ t. not t && none_among R xs (y ∷ ys)) (skips_below x y ys a.0) ∙ ap (λ t. not (is_among R x ys) && t) (none_skip xs y ys a.1)

  -- The steps of a walk: what is left of the one still rises, and the answer is that for what is left of both.
  pub all_at_equal : (xs ys : List A) (x y : A) (us vs : List A) → xs ≡ x ∷ us → ys ≡ y ∷ vs → Equal ≡ R x y → IsStrictlySortedBy R xs
      → IsStrictlySortedBy R us × (all_among R us vs ≡ all_among R xs ys)
  unfolding IsStrictlySortedBy
  all_at_equal xs ys x y us vs e f g s =
      let t = subst (IsStrictlySortedBy R) e s in
      let h : R x y ≡ Equal = sym g in
      (t.1, rw (e, f, h) (sym (all_skip us y vs (tied_each o y x us (tied_back o x y h) t.0))))

  pub all_at_greater : (xs ys : List A) (x y : A) (us vs : List A) → xs ≡ x ∷ us → ys ≡ y ∷ vs → Greater ≡ R x y → IsStrictlySortedBy R xs
      → IsStrictlySortedBy R xs × (all_among R xs vs ≡ all_among R xs ys)
  unfolding IsStrictlySortedBy
  all_at_greater xs ys x y us vs e f g s =
      let t = subst (IsStrictlySortedBy R) e s in
      let h = less x y (sym g) in
      (s, rw (e, f) (sym (all_skip (x ∷ us) y vs (h, below_each o y x us h t.0))))

  pub none_at_less : (xs ys : List A) (x y : A) (us vs : List A) → xs ≡ x ∷ us → ys ≡ y ∷ vs → Less ≡ R x y → IsStrictlySortedBy R xs
      → IsStrictlySortedBy R us × (none_among R us ys ≡ none_among R xs ys)
  unfolding IsStrictlySortedBy
  none_at_less xs ys x y us vs e f g s =
      let t = subst (IsStrictlySortedBy R) e s in
      let h : R x y ≡ Less = sym g in
      (t.1, rw (e, f, h) refl)

  pub none_at_greater : (xs ys : List A) (x y : A) (us vs : List A) → xs ≡ x ∷ us → ys ≡ y ∷ vs → Greater ≡ R x y → IsStrictlySortedBy R xs
      → IsStrictlySortedBy R xs × (none_among R xs vs ≡ none_among R xs ys)
  unfolding IsStrictlySortedBy
  none_at_greater xs ys x y us vs e f g s =
      let t = subst (IsStrictlySortedBy R) e s in
      let h = less x y (sym g) in
      (s, rw (e, f) (sym (none_skip (x ∷ us) y vs (h, below_each o y x us h t.0))))

  -- none stands among no others
  pub none_in_nothing : (xs ys : List A) → length ys ≡ 0 → none_among R xs ys ≡ true
  none_in_nothing xs (y ∷ ys) e = absurd (omega arith)
  none_in_nothing [] [] e = refl
  none_in_nothing (x ∷ xs) [] e = none_in_nothing xs [] e

  -- where each of rising elements stands among others, these are not fewer
  pub not_fewer : (xs ys : List A) → IsStrictlySortedBy R xs → all_among R xs ys ≡ true → length xs ≤ length ys
  unfolding IsStrictlySortedBy
  not_fewer [] ys s h = omega arith
  not_fewer (x ∷ xs) [] s h = cc
  not_fewer (x ∷ xs) (y ∷ ys) s h = go (R x y) refl (not_fewer xs ys s.1) (not_fewer (x ∷ xs) ys s)
    where
      go : (r : Ordering) → R x y ≡ r → (all_among R xs ys ≡ true → length xs ≤ length ys) → (all_among R (x ∷ xs) ys ≡ true → length (x ∷ xs) ≤ length ys) → length (x ∷ xs) ≤ length (y ∷ ys)
      go Less e f k = let n : all_among R (x ∷ xs) (y ∷ ys) ≡ false = rw e refl in cc
      go Equal e f k = let n = f ((all_at_equal (x ∷ xs) (y ∷ ys) x y xs ys refl refl (sym e) s).1 ∙ h) in omega (arith, n)
      go Greater e f k = let n = k ((all_at_greater (x ∷ xs) (y ∷ ys) x y xs ys refl refl (sym e) s).1 ∙ h) in omega (arith, n)
