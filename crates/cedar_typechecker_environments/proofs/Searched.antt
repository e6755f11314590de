-- What a search finds in a rising list.
use Rattle.std.proofs.Common.{◌≡◌, ℕ, zero, suc, ◌<◌, ◌||◌, Bool, true, false, List, [], ◌∷◌, length, map, get_or, Result, Ok, Err, refl, sym, ap, subst, arith}
use Rattle.std.specs.Result.{is_ok, MatchResult}
use Rattle.std.specs.Cmp.{IsTotalOrder}
use Rattle.std.specs.List.Sorted.{IsStrictlySortedBy, IsSearchInRange, IsBinarySearchResult}
use Rattle.std.specs.declared.cmp.Ordering.{Ordering}
use Rattle.std.specs.declared.cmp.Ordering.TheVariants.{Less, Equal, Greater}
use Rattle.std.proofs.lemmas.Cmp.{tied_back}
use Rattle.std.proofs.lemmas.List.{map-id}
use Rattle.std.proofs.lemmas.List.Folds.{list_any_at}
use Rattle.std.specs.Set.{is_member}
use Rattle.std.specs.Ordering.{eq_by_cmp, is_eq}
use Rattle.cedar_expr_values.proofs.Searched.{halved}

module _ {A : Type 0} {R : A → A → Ordering} (o : IsTotalOrder R) where
  abbrev has : List A → A → Bool
  has = is_member (eq_by_cmp R)

  missed : (x : A) (ys : List A) → ((k : ℕ) → k < length ys → R (get_or ys k x) x ≡ Equal → ⊥) → has ys x ≡ false
  missed x [] f = refl
  missed x (y ∷ ys) f = go (R x y) refl (missed x ys (λ k h. f (suc k) (omega (arith, h))))
    where
      go : (r : Ordering) → R x y ≡ r → has ys x ≡ false → (is_eq r || has ys x) ≡ false
      go Less e h = h
      go Equal e h = absurd (f zero (omega arith) (tied_back o x y e))
      go Greater e h = h

  -- whether a binary search finds a member
  pub searched : (x : A) (ys : List A) (r : Result ℕ ℕ) → IsSearchInRange r (length ys) → IsBinarySearchResult (λ y. R y x) ys r → IsStrictlySortedBy R ys → is_ok r ≡ has ys x
  searched x ys r h f s = go r h (halved o (λ y. y) x ys r h f (subst (IsStrictlySortedBy R) (sym (map-id ys)) s))
    where
      go : (r : Result ℕ ℕ) → IsSearchInRange r (length ys) → MatchResult r (λ k. (d : A) → R (get_or ys k d) x ≡ Equal) (λ i. (k : ℕ) (d : A) → k < length ys → R (get_or ys k d) x ≡ Equal → ⊥) → is_ok r ≡ has ys x
      go (Ok k) h m = sym (list_any_at (eq_by_cmp R x) ys k x h (ap is_eq (tied_back o (get_or ys k x) x (m x))))
      go (Err i) h m = sym (missed x ys (λ k. m k x))
