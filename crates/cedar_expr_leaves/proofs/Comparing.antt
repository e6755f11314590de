-- Lists are compared as what their items are.
use Rattle.std.proofs.Common.{◌≡◌, Bool, ◌&&◌, List, [], ◌∷◌, map, refl}
use Rattle.std.specs.Ordering.{ordering_then, is_eq}
use Rattle.std.specs.Cmp.Lexicographic.{slice_cmp, pointwise}
use Rattle.std.specs.declared.cmp.Ordering.{Ordering}
use Rattle.std.specs.declared.cmp.Ordering.TheVariants.{Less, Equal, Greater}

-- orders
pub slices_by : {X Y : Type 0} (R : X → X → Ordering) (S : Y → Y → Ordering) (view : X → Y) → ((a b : X) → R a b ≡ S (view a) (view b)) → (xs ys : List X) → slice_cmp R xs ys ≡ slice_cmp S (map view xs) (map view ys)
slices_by R S view h [] [] = refl
slices_by R S view h [] (y ∷ ys) = refl
slices_by R S view h (x ∷ xs) [] = refl
slices_by R S view h (x ∷ xs) (y ∷ ys) =
    let e = h x y in
    let f = slices_by R S view h xs ys in cc

-- no difference in two steps
pub is_eq_then : (a b : Ordering) → is_eq (ordering_then a b) ≡ (is_eq a && is_eq b)
is_eq_then Less b = refl
is_eq_then Equal b = refl
is_eq_then Greater b = refl

-- equality, where it is that of the order
pub lists_by : {X Y : Type 0} (E : X → X → Bool) (S : Y → Y → Ordering) (view : X → Y) → ((a b : X) → E a b ≡ is_eq (S (view a) (view b))) → (xs ys : List X) → pointwise E xs ys ≡ is_eq (slice_cmp S (map view xs) (map view ys))
lists_by E S view h [] [] = refl
lists_by E S view h [] (y ∷ ys) = refl
lists_by E S view h (x ∷ xs) [] = refl
lists_by E S view h (x ∷ xs) (y ∷ ys) =
    let e = h x y in
    let f = lists_by E S view h xs ys in
    let g = is_eq_then (S (view x) (view y)) (slice_cmp S (map view xs) (map view ys)) in cc

-- lists of what tells items apart tell lists apart
pub lists_apart : {X Y : Type 0} (view : X → Y) → ((a b : X) → view a ≡ view b → a ≡ b) → (xs ys : List X) → map view xs ≡ map view ys → xs ≡ ys
lists_apart view h [] [] e = refl
lists_apart view h [] (y ∷ ys) e = cc
lists_apart view h (x ∷ xs) [] e = cc
lists_apart view h (x ∷ xs) (y ∷ ys) e =
    let first : x ≡ y = h x y (cc) in
    let others : xs ≡ ys = lists_apart view h xs ys (cc) in cc
