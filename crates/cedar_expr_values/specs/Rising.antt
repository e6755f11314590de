-- Lists in the rising order of their elements, under any order: how they are made, and what stands in them.
-- Rule: values and equality (docs/RULES.md).
use Rattle.std.specs.Prelude.{List, [], ◌∷◌, Bool, true, false, not, ◌&&◌}
use Rattle.std.specs.Ordering.{match_ordering}
use Rattle.std.specs.declared.cmp.Ordering.{Ordering}

module _ {A : Type 0} (R : A → A → Ordering) where
  -- the elements with one more in its place, instead of one between which and it the order finds no difference
  abbrev pub placed : A → List A → List A
  placed x [] = x ∷ []
  placed x (y ∷ ys) = match_ordering (R x y) (x ∷ y ∷ ys) (x ∷ ys) (y ∷ placed x ys)

  -- The elements in rising order. Of those between which the order finds no difference the first stands.
  abbrev pub in_rising : List A → List A
  in_rising [] = []
  in_rising (x ∷ xs) = placed x (in_rising xs)

  -- whether the element stands among these, which rise
  abbrev pub is_among : A → List A → Bool
  is_among x [] = false
  is_among x (y ∷ ys) = match_ordering (R x y) false true (is_among x ys)

  -- whether each of these stands among those
  abbrev pub all_among : List A → List A → Bool
  all_among [] ys = true
  all_among (x ∷ xs) ys = is_among x ys && all_among xs ys

  -- whether none of these stands among those
  abbrev pub none_among : List A → List A → Bool
  none_among [] ys = true
  none_among (x ∷ xs) ys = not (is_among x ys) && none_among xs ys
