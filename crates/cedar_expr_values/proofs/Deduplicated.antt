-- What a stable sort leaves without its repeats is the list in rising order.
use Rattle.std.proofs.Common.{◌≡◌, Bool, true, false, cond, not, ◌&&◌, List, [], ◌∷◌, Option, Some, None, refl, sym, ap, ◌∙◌}
use Rattle.std.specs.Ordering.{is_eq, is_lt, eq_by_cmp, ordering_reverse}
use Rattle.std.specs.Cmp.{IsTotalOrder}
use Rattle.std.specs.List.{filter, dedup, dedup_from}
use Rattle.std.specs.List.Sorted.{IsSorted, IsStable, ties}
use Rattle.std.specs.declared.cmp.Ordering.{Ordering}
use Rattle.std.specs.declared.cmp.Ordering.TheVariants.{Less, Equal, Greater}
use Rattle.std.proofs.lemmas.Cmp.{alike_right}
use Rattle.std.proofs.lemmas.List.Kept.{IsStrictlySortedBy-dedup}
use Rattle.cedar_expr_values.specs.Rising.{in_rising}
use Rattle.cedar_expr_values.proofs.Places.{first_tie, same_from_firsts, in_rising_rises, in_rising_first}

-- the first of a list
abbrev first_of_list : {A : Type 0} → List A → Option A
first_of_list [] = None
first_of_list (x ∷ xs) = Some x

module _ {A : Type 0} {R : A → A → Ordering} (o : IsTotalOrder R) where
  -- neither is before the other exactly where the order finds no difference
  ties_are : (q x : A) → ties (λ a b. is_lt (R a b)) q x ≡ is_eq (R q x)
  ties_are q x = go (R q x) (R x q) (o.antisymm x q)
    where
      go : (r s : Ordering) → s ≡ ordering_reverse r → (not (is_lt r) && not (is_lt s)) ≡ is_eq r
      go Less s e = refl
      go Equal s e = rw e refl
      go Greater s e = rw e refl

  firsts_are : (q : A) (xs : List A) → first_of_list (filter (ties (λ a b. is_lt (R a b)) q) xs) ≡ first_tie o q xs
  firsts_are q [] = refl
  firsts_are q (x ∷ xs) =
      ap (λ t. first_of_list (cond t (x ∷ filter (ties (λ a b. is_lt (R a b)) q) xs) (filter (ties (λ a b. is_lt (R a b)) q) xs))) (ties_are q x)
      ∙ go (is_eq (R q x)) (firsts_are q xs)
    where
      go : (t : Bool) → first_of_list (filter (ties (λ a b. is_lt (R a b)) q) xs) ≡ first_tie o q xs
          → first_of_list (cond t (x ∷ filter (ties (λ a b. is_lt (R a b)) q) xs) (filter (ties (λ a b. is_lt (R a b)) q) xs)) ≡ cond t (Some x) (first_tie o q xs)
      go true h = refl
      go false h = h

  module _ (E : A → A → Bool) (tied : (x y : A) → E x y ≡ eq_by_cmp R x y) where
    dedup_from_first : (q k : A) (xs : List A) → first_tie o q (dedup_from E k xs) ≡ first_tie o q (k ∷ xs)
    dedup_from_first q k [] = refl
    dedup_from_first q k (x ∷ xs) =
        ap (λ t. first_tie o q (cond t (dedup_from E k xs) (k ∷ dedup_from E x xs))) (tied x k)
        ∙ go (R x k) refl (R q k) refl (dedup_from_first q k xs) (dedup_from_first q x xs)
      where
        go : (r : Ordering) → R x k ≡ r → (s : Ordering) → R q k ≡ s → first_tie o q (dedup_from E k xs) ≡ first_tie o q (k ∷ xs) → first_tie o q (dedup_from E x xs) ≡ first_tie o q (x ∷ xs)
            → first_tie o q (cond (is_eq r) (dedup_from E k xs) (k ∷ dedup_from E x xs)) ≡ first_tie o q (k ∷ x ∷ xs)
        go Less e s f h i = ap (cond (is_eq (R q k)) (Some k)) i
        go Greater e s f h i = ap (cond (is_eq (R q k)) (Some k)) i
        go Equal e Less f h i = let g : R q x ≡ Less = alike_right o x k q e ∙ f in h ∙ rw (f, g) refl
        go Equal e Equal f h i = h ∙ rw f refl
        go Equal e Greater f h i = let g : R q x ≡ Greater = alike_right o x k q e ∙ f in h ∙ rw (f, g) refl

    dedup_first : (q : A) (xs : List A) → first_tie o q (dedup E xs) ≡ first_tie o q xs
    dedup_first q [] = refl
    dedup_first q (x ∷ xs) = dedup_from_first q x xs

    pub deduplicated : (xs ys : List A) → IsSorted R ys → IsStable R xs ys → dedup E ys ≡ in_rising R xs
    deduplicated xs ys sorted stable =
        same_from_firsts o (dedup E ys) (in_rising R xs) (IsStrictlySortedBy-dedup o tied ys sorted) (in_rising_rises o xs)
        (λ q. dedup_first q ys ∙ sym (firsts_are q ys) ∙ ap first_of_list (stable q) ∙ firsts_are q xs ∙ sym (in_rising_first o q xs))
