-- Lists that are made of a list item by item.
use Rattle.std.proofs.Common.{◌≡◌, ◌<◌, ◌≤◌, ◌+◌, ℕ, List, [], ◌∷◌, ◌++◌, map, take, length, get_or, Option, sym, ap, ◌∙◌}
use Rattle.std.proofs.lemmas.List.{map-append, take_more, take_all}
use Rattle.std.proofs.lemmas.List.Elements.{filter_map-append}
use Rattle.std.specs.List.{filter_map, cons_option}

module _ {A B : Type 0} (f : A → B) (xs : List A) (i : ℕ) (x : A) (below : i < length xs) (is : x ≡ get_or xs i x) where
  seen_next : map f (take (i + 1) xs) ≡ map f (take i xs) ++ f x ∷ []
  seen_next = ap (map f) (take_more xs i x below) ∙ map-append f (take i xs) (get_or xs i x ∷ []) ∙ ap (λ y. map f (take i xs) ++ f y ∷ []) (sym is)

  -- one more of each
  pub push_next : {C : Type 0} (k : B → C) (done more : List C) (y : C) → done ≡ map k (map f (take i xs)) → more ≡ done ++ y ∷ [] → y ≡ k (f x) → more ≡ map k (map f (take (i + 1) xs))
  push_next k done more y d m v = m ∙ (λ j. d j ++ v j ∷ []) ∙ sym (ap (map k) seen_next ∙ map-append k (map f (take i xs)) (f x ∷ []))

  -- one more of those of which something is taken
  pub filter_next : {C : Type 0} (h : B → Option C) (done more : List C) → done ≡ filter_map h (map f (take i xs)) → more ≡ done ++ cons_option (h (f x)) [] → more ≡ filter_map h (map f (take (i + 1) xs))
  filter_next h done more d m = m ∙ ap (λ z. z ++ cons_option (h (f x)) []) d ∙ sym (ap (filter_map h) seen_next ∙ filter_map-append h (map f (take i xs)) (f x ∷ []))

-- what is made of all, where none is left
pub all_of : {A B C : Type 0} (f : A → B) (xs : List A) (i : ℕ) (whole : List B → C) (out : C) → length xs ≤ i → out ≡ whole (map f (take i xs)) → out ≡ whole (map f xs)
all_of f xs i whole out over h = h ∙ ap (λ ys. whole (map f ys)) (take_all i xs over)
