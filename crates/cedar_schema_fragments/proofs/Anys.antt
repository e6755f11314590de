-- Whether one of several passes a test, in lists that are made of lists.
use Rattle.std.proofs.Common.{◌≡◌, Bool, true, false, ◌||◌, List, [], ◌∷◌, map, refl, ap, ◌∙◌}
use Rattle.std.proofs.lemmas.List.Folds.{list_any-append}
use Rattle.std.specs.List.{flat_map, list_any}

-- or
pub or_none : (a : Bool) → (a || false) ≡ a
or_none true = refl
or_none false = refl

pub or_right : (a b c : Bool) → (a || (b || c)) ≡ ((a || b) || c)
or_right true b c = refl
or_right false b c = refl

pub or_across : (a b c d : Bool) → ((a || b) || (c || d)) ≡ ((a || c) || (b || d))
or_across true b c d = refl
or_across false true true d = refl
or_across false true false true = refl
or_across false true false false = refl
or_across false false c d = refl

-- three of three, turned
pub or_turned : (a b c d e f g h i : Bool) → ((a || (b || c)) || ((d || (e || f)) || (g || (h || i)))) ≡ ((a || (d || g)) || ((b || (e || h)) || (c || (f || i))))
or_turned a b c d e f g h i =
    ap (λ x. (a || (b || c)) || x) (or_across d (e || f) g (h || i))
    ∙ or_across a (b || c) (d || g) ((e || f) || (h || i))
    ∙ ap (λ x. (a || (d || g)) || ((b || c) || x)) (or_across e f h i)
    ∙ ap (λ x. (a || (d || g)) || x) (or_across b c (e || h) (f || i))

module _ {A : Type 0} where
  pub any_alike : (p q : A → Bool) → ((x : A) → p x ≡ q x) → (xs : List A) → list_any p xs ≡ list_any q xs
  any_alike p q h [] = refl
  any_alike p q h (x ∷ xs) = λ i. h x i || any_alike p q h xs i

  pub any_or : (p q : A → Bool) (xs : List A) → list_any (λ x. p x || q x) xs ≡ (list_any p xs || list_any q xs)
  any_or p q [] = refl
  any_or p q (x ∷ xs) = ap (λ b. (p x || q x) || b) (any_or p q xs) ∙ or_across (p x) (q x) (list_any p xs) (list_any q xs)

  pub any_or3 : (p q r : A → Bool) (xs : List A) → list_any (λ x. p x || (q x || r x)) xs ≡ (list_any p xs || (list_any q xs || list_any r xs))
  any_or3 p q r xs = any_or p (λ x. q x || r x) xs ∙ ap (λ b. list_any p xs || b) (any_or q r xs)

  pub any_none : (xs : List A) → list_any (λ x. false) xs ≡ false
  any_none [] = refl
  any_none (x ∷ xs) = any_none xs

module _ {A B : Type 0} where
  pub any_map : (p : B → Bool) (f : A → B) (xs : List A) → list_any p (map f xs) ≡ list_any (λ x. p (f x)) xs
  any_map p f [] = refl
  any_map p f (x ∷ xs) = ap (λ b. p (f x) || b) (any_map p f xs)

  pub any_flat : (p : B → Bool) (f : A → List B) (xs : List A) → list_any p (flat_map f xs) ≡ list_any (λ x. list_any p (f x)) xs
  any_flat p f [] = refl
  any_flat p f (x ∷ xs) = list_any-append p (f x) (flat_map f xs) ∙ ap (λ b. list_any p (f x) || b) (any_flat p f xs)

-- a list of lists that were mapped, and one that was mapped again
pub any_map2 : {A B C : Type 0} (p : C → Bool) (f : B → C) (g : A → B) (xs : List A) → list_any p (map f (map g xs)) ≡ list_any (λ x. p (f (g x))) xs
any_map2 p f g xs = any_map p f (map g xs) ∙ any_map (λ y. p (f y)) g xs

pub any_flat_map : {A B C : Type 0} (p : C → Bool) (f : B → List C) (g : A → B) (xs : List A) → list_any p (flat_map f (map g xs)) ≡ list_any (λ x. list_any p (f (g x))) xs
any_flat_map p f g xs = any_flat p f (map g xs) ∙ any_map (λ y. list_any p (f y)) g xs
