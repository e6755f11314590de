-- Loops over lists, by index.
use Rattle.std.proofs.Common.{◌≡◌, ℕ, suc, ◌+◌, ◌<◌, List, [], ◌∷◌, ◌++◌, length, take, get_or, map, sym, ap, ◌∙◌, arith}
use Rattle.std.proofs.Math.Seq.{take-suc}
use Rattle.std.proofs.lemmas.List.{map-append}

take_one : {X : Type 0} (xs : List X) (i : ℕ) (x d : X) → i < length xs → x ≡ get_or xs i d → take (i + 1) xs ≡ take i xs ++ x ∷ []
take_one xs i x d below at = let next : i + 1 ≡ suc i = omega arith in ap (λ j. take j xs) next ∙ take-suc xs i d below ∙ ap (λ y. take i xs ++ y ∷ []) (sym at)

-- one more is seen
pub seen_more : {X Y : Type 0} (f : X → Y) (xs : List X) (i : ℕ) (x d : X) → i < length xs → x ≡ get_or xs i d → map f (take i xs) ++ f x ∷ [] ≡ map f (take (i + 1) xs)
seen_more f xs i x d below at = sym (ap (map f) (take_one xs i x d below at) ∙ map-append f (take i xs) (x ∷ []))
