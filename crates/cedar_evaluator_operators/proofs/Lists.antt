-- Lists that are mapped and tested.
use Rattle.std.specs.Prelude.{◌≡◌, refl, ◌||◌, Bool, List, [], ◌∷◌, map}
use Rattle.std.specs.List.{list_any}
use Rattle.std.proofs.Common.{ap}

-- a test of what a list is mapped to is a test of its items
pub list_any-map : {A B : Type 0} (p : B → Bool) (f : A → B) (xs : List A) → list_any p (map f xs) ≡ list_any (λ x. p (f x)) xs
list_any-map p f [] = refl
list_any-map p f (x ∷ xs) = ap (λ b. p (f x) || b) (list_any-map p f xs)

-- what a list is mapped to, mapped again
pub map-after : {A B C : Type 0} (f : B → C) (g : A → B) (xs : List A) → map (λ x. f (g x)) xs ≡ map f (map g xs)
map-after f g [] = refl
map-after f g (x ∷ xs) = ap (λ ys. f (g x) ∷ ys) (map-after f g xs)
