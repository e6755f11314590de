-- Rising lists: two with the same first elements are one, and what is put in its place.
use Rattle.std.proofs.Common.{◌≡◌, cond, List, [], ◌∷◌, Option, Some, None, refl, sym, ap, ◌∙◌, subst}
use Rattle.std.specs.Ordering.{match_ordering, is_eq, ordering_reverse}
use Rattle.std.specs.Cmp.{IsTotalOrder}
use Rattle.std.specs.List.{AllByRecursion}
use Rattle.std.specs.List.Sorted.{IsStrictlySortedBy}
use Rattle.std.specs.declared.cmp.Ordering.{Ordering}
use Rattle.std.specs.declared.cmp.Ordering.TheVariants.{Less, Equal, Greater}
use Rattle.std.proofs.lemmas.Cmp.{tied_itself, alike_right}
use Rattle.cedar_expr_values.specs.Rising.{placed, in_rising}

module _ {A : Type 0} {R : A → A → Ordering} (o : IsTotalOrder R) where
  turned : (x y : A) (r : Ordering) → R x y ≡ r → R y x ≡ ordering_reverse r
  turned x y r e = o.antisymm y x ∙ ap ordering_reverse e

  -- the first of these between which and the element the order finds no difference
  abbrev pub first_tie : A → List A → Option A
  first_tie q [] = None
  first_tie q (x ∷ xs) = cond (is_eq (R q x)) (Some x) (first_tie q xs)

  -- what stands before each is none of them, and what stands before the first of a rising list stands before each
  absent : (q : A) (xs : List A) → AllByRecursion (λ x. R q x ≡ Less) xs → first_tie q xs ≡ None
  absent q [] a = refl
  absent q (x ∷ xs) a = ap (λ r. cond (is_eq r) (Some x) (first_tie q xs)) a.0 ∙ absent q xs a.1

  pub below_each : (q x : A) (xs : List A) → R q x ≡ Less → AllByRecursion (λ y. R x y ≡ Less) xs → AllByRecursion (λ y. R q y ≡ Less) xs
  below_each q x [] e a = tt
  below_each q x (y ∷ ys) e a = (o.trans q x y e a.0, below_each q x ys e a.1)

  pub tied_each : (q x : A) (xs : List A) → R q x ≡ Equal → AllByRecursion (λ y. R x y ≡ Less) xs → AllByRecursion (λ y. R q y ≡ Less) xs
  tied_each q x [] e a = tt
  tied_each q x (y ∷ ys) e a = (o.congr q x y e ∙ a.0, tied_each q x ys e a.1)

  itself : (x : A) (xs : List A) → first_tie x (x ∷ xs) ≡ Some x
  itself x xs = ap (λ r. cond (is_eq r) (Some x) (first_tie x xs)) (tied_itself o x)

  -- rising lists with the same first elements are one
  heads : (x y : A) (xs ys : List A) (r : Ordering) → R x y ≡ r → IsStrictlySortedBy R (x ∷ xs) → IsStrictlySortedBy R (y ∷ ys) → ((q : A) → first_tie q (x ∷ xs) ≡ first_tie q (y ∷ ys)) → x ≡ y
  unfolding IsStrictlySortedBy
  heads x y xs ys Less e s t f =
      let none = absent x (y ∷ ys) (e, below_each x y ys e t.0) in
      let some : Some x ≡ None = sym (itself x xs) ∙ f x ∙ none in cc
  heads x y xs ys Equal e s t f =
      let some : Some x ≡ Some y = sym (itself x xs) ∙ f x ∙ ap (λ r. cond (is_eq r) (Some y) (first_tie x ys)) e in cc
  heads x y xs ys Greater e s t f =
      let back = turned x y Greater e in
      let none = absent y (x ∷ xs) (back, below_each y x xs back s.0) in
      let some : Some y ≡ None = sym (itself y ys) ∙ sym (f y) ∙ none in cc

  tails : (x : A) (xs ys : List A) (q : A) (r : Ordering) → R q x ≡ r → IsStrictlySortedBy R (x ∷ xs) → IsStrictlySortedBy R (x ∷ ys) → first_tie q (x ∷ xs) ≡ first_tie q (x ∷ ys)
      → first_tie q xs ≡ first_tie q ys
  unfolding IsStrictlySortedBy
  tails x xs ys q Less e s t f = absent q xs (below_each q x xs e s.0) ∙ sym (absent q ys (below_each q x ys e t.0))
  tails x xs ys q Equal e s t f = absent q xs (tied_each q x xs e s.0) ∙ sym (absent q ys (tied_each q x ys e t.0))
  tails x xs ys q Greater e s t f =
      sym (ap (λ r. cond (is_eq r) (Some x) (first_tie q xs)) e) ∙ f ∙ ap (λ r. cond (is_eq r) (Some x) (first_tie q ys)) e

  pub same_from_firsts : (xs ys : List A) → IsStrictlySortedBy R xs → IsStrictlySortedBy R ys → ((q : A) → first_tie q xs ≡ first_tie q ys) → xs ≡ ys
  unfolding IsStrictlySortedBy
  same_from_firsts [] [] s t f = refl
  same_from_firsts [] (y ∷ ys) s t f = let none : None ≡ Some y = f y ∙ itself y ys in cc
  same_from_firsts (x ∷ xs) [] s t f = let none : None ≡ Some x = sym (f x) ∙ itself x xs in cc
  same_from_firsts (x ∷ xs) (y ∷ ys) s t f =
      let h : x ≡ y = heads x y xs ys (R x y) refl s t f in
      let t' = subst (λ z. IsStrictlySortedBy R (z ∷ ys)) (sym h) t in
      let rest = same_from_firsts xs ys s.1 t'.1 (λ q. tails x xs ys q (R q x) refl s t' (f q ∙ ap (λ z. first_tie q (z ∷ ys)) (sym h))) in
      λ i. h i ∷ rest i

  -- what is put in its place comes first among those that tie
  placed_first : (q y : A) (ws : List A) → first_tie q (placed R y ws) ≡ cond (is_eq (R q y)) (Some y) (first_tie q ws)
  placed_first q y [] = refl
  placed_first q y (w ∷ ws) = go (R y w) refl (R q y) refl (placed_first q y ws)
    where
      go : (r : Ordering) → R y w ≡ r → (s : Ordering) → R q y ≡ s → first_tie q (placed R y ws) ≡ cond (is_eq (R q y)) (Some y) (first_tie q ws)
          → first_tie q (match_ordering r (y ∷ w ∷ ws) (y ∷ ws) (w ∷ placed R y ws)) ≡ cond (is_eq (R q y)) (Some y) (first_tie q (w ∷ ws))
      go Less e s f h = refl
      go Equal e Less f h = let g : R q w ≡ Less = sym (alike_right o y w q e) ∙ f in rw (f, g) refl
      go Equal e Equal f h = rw f refl
      go Equal e Greater f h = let g : R q w ≡ Greater = sym (alike_right o y w q e) ∙ f in rw (f, g) refl
      go Greater e Less f h = rw (h, f) refl
      go Greater e Equal f h = let g : R q w ≡ Greater = o.congr q y w f ∙ e in rw (h, f, g) refl
      go Greater e Greater f h = rw (h, f) refl

  placed_above : (u y : A) (ws : List A) → R u y ≡ Less → AllByRecursion (λ z. R u z ≡ Less) ws → AllByRecursion (λ z. R u z ≡ Less) (placed R y ws)
  placed_above u y [] e a = (e, tt)
  placed_above u y (w ∷ ws) e a = go (R y w) (placed_above u y ws e a.1)
    where
      go : (r : Ordering) → AllByRecursion (λ z. R u z ≡ Less) (placed R y ws) → AllByRecursion (λ z. R u z ≡ Less) (match_ordering r (y ∷ w ∷ ws) (y ∷ ws) (w ∷ placed R y ws))
      go Less h = (e, a)
      go Equal h = (e, a.1)
      go Greater h = (a.0, h)

  placed_rises : (y : A) (ws : List A) → IsStrictlySortedBy R ws → IsStrictlySortedBy R (placed R y ws)
  unfolding IsStrictlySortedBy
  placed_rises y [] s = (tt, tt)
  placed_rises y (w ∷ ws) s = go (R y w) refl (placed_rises y ws s.1)
    where
      go : (r : Ordering) → R y w ≡ r → IsStrictlySortedBy R (placed R y ws) → IsStrictlySortedBy R (match_ordering r (y ∷ w ∷ ws) (y ∷ ws) (w ∷ placed R y ws))
      go Less e h = ((e, below_each y w ws e s.0), s)
      go Equal e h = (tied_each y w ws e s.0, s.1)
      go Greater e h = (placed_above w y ws (turned y w Greater e) s.0, h)

  pub in_rising_rises : (xs : List A) → IsStrictlySortedBy R (in_rising R xs)
  unfolding IsStrictlySortedBy
  in_rising_rises [] = tt
  in_rising_rises (x ∷ xs) = placed_rises x (in_rising R xs) (in_rising_rises xs)

  pub in_rising_first : (q : A) (xs : List A) → first_tie q (in_rising R xs) ≡ first_tie q xs
  in_rising_first q [] = refl
  in_rising_first q (x ∷ xs) = placed_first q x (in_rising R xs) ∙ ap (cond (is_eq (R q x)) (Some x)) (in_rising_first q xs)
