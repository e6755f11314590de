-- The parts of a name that is not reserved are not reserved.
use Rattle.std.proofs.Common.{◌≡◌, Bool, true, false, cond, ◌||◌, List, [], ◌∷◌, ◌++◌, Some, refl}
use Rattle.std.specs.List.{list_any}
use Rattle.std.specs.Str.{bytes_eq}
use Rattle.cedar_expr_model.specs.Name.{Text, Name, reserved, is_reserved}
use Rattle.cedar_expr_model.specs.Names.{is_unqualified, within, qualified}

left_fails : (a b : Bool) → (a || b) ≡ false → a ≡ false
left_fails true b h = cc
left_fails false b h = refl

right_fails : (a b : Bool) → (a || b) ≡ false → b ≡ false
right_fails true b h = cc
right_fails false b h = h

both_fail : (a b : Bool) → a ≡ false → b ≡ false → (a || b) ≡ false
both_fail true b h k = h
both_fail false b h k = k

pub base_is_not : (n : Name) → is_reserved n ≡ false → bytes_eq reserved n.base ≡ false
base_is_not n h = right_fails (list_any (bytes_eq reserved) n.path) (bytes_eq reserved n.base) h

more_are_not : (path : List Text) (base : Text) → list_any (bytes_eq reserved) path ≡ false → bytes_eq reserved base ≡ false → list_any (bytes_eq reserved) (path ++ base ∷ []) ≡ false
more_are_not [] base h k = both_fail (bytes_eq reserved base) false k refl
more_are_not (p ∷ path) base h k =
    both_fail (bytes_eq reserved p) (list_any (bytes_eq reserved) (path ++ base ∷ []))
    (left_fails (bytes_eq reserved p) (list_any (bytes_eq reserved) path) h)
    (more_are_not path base (right_fails (bytes_eq reserved p) (list_any (bytes_eq reserved) path) h) k)

within_is_not : (space n : Name) → is_reserved space ≡ false → is_reserved n ≡ false → is_reserved (within space n.base) ≡ false
within_is_not space n h k =
    both_fail (list_any (bytes_eq reserved) (space.path ++ space.base ∷ [])) (bytes_eq reserved n.base)
    (more_are_not space.path space.base (left_fails (list_any (bytes_eq reserved) space.path) (bytes_eq reserved space.base) h) (base_is_not space h))
    (base_is_not n k)

-- a name in a namespace, neither of them reserved
pub qualified_is_not : (space n : Name) → is_reserved space ≡ false → is_reserved n ≡ false → is_reserved (qualified (Some space) n) ≡ false
qualified_is_not space n h k = go (is_unqualified n)
  where
    go : (t : Bool) → is_reserved (cond t (within space n.base) n) ≡ false
    go true = within_is_not space n h k
    go false = k
