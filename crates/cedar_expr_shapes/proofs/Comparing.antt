-- Orders of rows: of lists as what their items are, and of expressions and fields from the first that differs.
use Rattle.std.proofs.Common.{◌≡◌, true, false, List, [], ◌∷◌, map, refl}
use Rattle.std.specs.Ordering.{ordering_then, is_ne}
use Rattle.std.specs.Cmp.Lexicographic.{slice_cmp}
use Rattle.std.specs.declared.cmp.Ordering.{Ordering}
use Rattle.std.specs.declared.cmp.Ordering.TheVariants.{Less, Equal, Greater}

pub slices_by : {X Y : Type 0} (R : X → X → Ordering) (S : Y → Y → Ordering) (view : X → Y) → ((a b : X) → R a b ≡ S (view a) (view b)) → (xs ys : List X) → slice_cmp R xs ys ≡ slice_cmp S (map view xs) (map view ys)
slices_by R S view h [] [] = refl
slices_by R S view h [] (y ∷ ys) = refl
slices_by R S view h (x ∷ xs) [] = refl
slices_by R S view h (x ∷ xs) (y ∷ ys) =
    let e = h x y in
    let f = slices_by R S view h xs ys in cc

-- the first part that differs decides
pub stops : (o r : Ordering) → is_ne o ≡ true → ordering_then o r ≡ o
stops Less r e = refl
stops Equal r e = cc
stops Greater r e = refl

pub goes_on : (o r : Ordering) → is_ne o ≡ false → ordering_then o r ≡ r
goes_on Less r e = cc
goes_on Equal r e = refl
goes_on Greater r e = cc
