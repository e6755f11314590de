-- What is left of fields is no greater than all.
use Rattle.std.proofs.Common.{◌≡◌, ℕ, ◌<◌, ◌≤◌, List, ◌∷◌, length, ap, arith}
use denote.Param.Weighed.{most}
use Rattle.std.specs.Map.{values_of}

-- a field that is next is no greater than all, and no more are those after it
module _ {K V : Type 0} (size : V → ℕ) (all left later : List (K × V)) (k : K) (v : V) (within : most size (values_of left) ≤ most size (values_of all)) (is : left ≡ (k, v) ∷ later) where
  pub next_is_within : size v ≤ most size (values_of all)
  next_is_within = let same = ap (λ es. most size (values_of es)) is in omega (arith, same, within)

  pub later_are_within : most size (values_of later) ≤ most size (values_of all)
  later_are_within = let same = ap (λ es. most size (values_of es)) is in omega (arith, same, within)

-- and they are fewer
pub fewer : {A : Type 0} (left later : List A) (x : A) → left ≡ x ∷ later → length later < length left
fewer left later x is = let same = ap length is in omega (arith, same)
