-- What a search finds in a rising list.
use Rattle.std.proofs.Common.{◌≡◌, ℕ, zero, suc, ◌<◌, ◌≤◌, true, false, List, [], ◌∷◌, length, map, get_or, Result, Ok, Err, refl, sym, ap, subst, ◌∙◌, ⊎_elim, arith, add-one}
use Rattle.std.specs.Result.{is_ok, MatchResult}
use Rattle.std.specs.Ordering.{match_ordering, is_lt, ordering_reverse}
use Rattle.std.specs.Cmp.{IsTotalOrder}
use Rattle.std.specs.List.{AllByRecursion}
use Rattle.std.specs.List.Sorted.{IsStrictlySortedBy, IsSortedBy, IsSearchInRange, IsBinarySearchResult}
use Rattle.std.specs.declared.cmp.Ordering.{Ordering}
use Rattle.std.specs.declared.cmp.Ordering.TheVariants.{Less, Equal, Greater}
use Rattle.std.proofs.lemmas.Cmp.{tied_back, alike_right}
use Rattle.std.proofs.lemmas.Bool.{cases_lt}
use Rattle.std.proofs.lemmas.List.{map-id}
use Rattle.std.proofs.lemmas.List.Sorted.{searchable_from_sorted}
use Rattle.cedar_expr_values.specs.Rising.{is_among}

module _ {A : Type 0} {R : A → A → Ordering} (o : IsTotalOrder R) where
  pub greater : (x y : A) → R x y ≡ Less → R y x ≡ Greater
  greater x y e = o.antisymm y x ∙ ap ordering_reverse e

  module _ {B : Type 0} (key : B → A) where
    -- what holds of each key holds of that at each place
    pub at_each : (P : A → Type 0) (ys : List B) (k : ℕ) (d : B) → AllByRecursion P (map key ys) → k < length ys → P (key (get_or ys k d))
    at_each P [] k d a h = absurd (omega arith)
    at_each P (y ∷ ys) zero d a h = a.0
    at_each P (y ∷ ys) (suc k) d a h = at_each P ys k d a.1 (omega (arith, h))

    -- a rising list is sorted
    next_above : (ys : List B) → IsStrictlySortedBy R (map key ys) → (k : ℕ) (d : B) → suc k < length ys → is_lt (R (key (get_or ys (suc k) d)) (key (get_or ys k d))) ≡ false
    unfolding IsStrictlySortedBy
    next_above [] s k d h = absurd (omega arith)
    next_above (y ∷ ys) s zero d h = ap is_lt (greater (key y) (key (get_or ys 0 d)) (at_each (λ z. R (key y) z ≡ Less) ys 0 d s.0 (omega (arith, h))))
    next_above (y ∷ ys) s (suc k) d h = next_above ys s.1 k d (omega (arith, h))

    rises_sorted : (ys : List B) → IsStrictlySortedBy R (map key ys) → IsSortedBy (λ a b. is_lt (R (key a) (key b))) ys
    rises_sorted ys s k d l h = rw add-one (next_above ys s k d (omega (arith, h)))

    -- a search by halving ends at a place with that key, or nowhere is one
    pub halved : (x : A) (ys : List B) (r : Result ℕ ℕ) → IsSearchInRange r (length ys) → IsBinarySearchResult (λ y. R (key y) x) ys r → IsStrictlySortedBy R (map key ys)
        → MatchResult r (λ k. (d : B) → R (key (get_or ys k d)) x ≡ Equal) (λ i. (k : ℕ) (d : B) → k < length ys → R (key (get_or ys k d)) x ≡ Equal → ⊥)
    halved x ys (Ok k) h f s = f
    halved x ys (Err i) h f s = λ k d l e.
        let p = f (searchable_from_sorted o key ys x (rises_sorted ys s)) in
        ⊎_elim (λ m. let q = p.0 k d (omega arith) m in cc) (λ m. let q = p.1 k d m l in cc) (cases_lt k i)

  found : (x : A) (ys : List A) (k : ℕ) → IsStrictlySortedBy R (map (λ y. y) ys) → k < length ys → R (get_or ys k x) x ≡ Equal → is_among R x ys ≡ true
  unfolding IsStrictlySortedBy
  found x [] k s h e = absurd (omega arith)
  found x (y ∷ ys) zero s h e = let f = tied_back o y x e in rw f refl
  found x (y ∷ ys) (suc k) s h e =
      let below = at_each (λ z. z) (λ z. R y z ≡ Less) ys k x s.0 (omega (arith, h)) in
      let f : R x y ≡ Greater = greater y x (sym (alike_right o (get_or ys k x) x y e) ∙ below) in
      rw f (found x ys k s.1 (omega (arith, h)) e)

  missed : (x : A) (ys : List A) → ((k : ℕ) → k < length ys → R (get_or ys k x) x ≡ Equal → ⊥) → is_among R x ys ≡ false
  missed x [] f = refl
  missed x (y ∷ ys) f = go (R x y) refl (missed x ys (λ k h. f (suc k) (omega (arith, h))))
    where
      go : (r : Ordering) → R x y ≡ r → is_among R x ys ≡ false → match_ordering r false true (is_among R x ys) ≡ false
      go Less e h = refl
      go Equal e h = absurd (f zero (omega arith) (tied_back o x y e))
      go Greater e h = h

  -- whether a binary search finds a member
  pub searched : (x : A) (ys : List A) (r : Result ℕ ℕ) → IsSearchInRange r (length ys) → IsBinarySearchResult (λ y. R y x) ys r → IsStrictlySortedBy R ys → is_ok r ≡ is_among R x ys
  searched x ys r h f s = go r h (halved (λ y. y) x ys r h f same)
    where
      same : IsStrictlySortedBy R (map (λ y. y) ys)
      same = subst (IsStrictlySortedBy R) (sym (map-id ys)) s

      go : (r : Result ℕ ℕ) → IsSearchInRange r (length ys) → MatchResult r (λ k. (d : A) → R (get_or ys k d) x ≡ Equal) (λ i. (k : ℕ) (d : A) → k < length ys → R (get_or ys k d) x ≡ Equal → ⊥) → is_ok r ≡ is_among R x ys
      go (Ok k) h m = sym (found x ys k same h (m x))
      go (Err i) h m = sym (missed x ys (λ k. m k x))
