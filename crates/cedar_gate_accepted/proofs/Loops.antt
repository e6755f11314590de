-- Loops over lists, by index.
use Rattle.std.proofs.Common.{◌≡◌, ℕ, suc, ◌+◌, ◌<◌, ◌≤◌, List, [], ◌∷◌, ◌++◌, length, take, get_or, map, Bool, false, sym, ap, ◌∙◌, append_assoc, arith}
use Rattle.std.specs.List.{list_all}
use Rattle.std.proofs.Math.Seq.{take-suc}
use Rattle.std.proofs.lemmas.List.{map-append, take_all}
use Rattle.std.proofs.lemmas.List.Folds.{list_all_at, list_all-map}

take_one : {X : Type 0} (xs : List X) (i : ℕ) (x d : X) → i < length xs → x ≡ get_or xs i d → take (i + 1) xs ≡ take i xs ++ x ∷ []
take_one xs i x d below at = let next : i + 1 ≡ suc i = omega arith in ap (λ j. take j xs) next ∙ take-suc xs i d below ∙ ap (λ y. take i xs ++ y ∷ []) (sym at)

-- one more is seen
pub seen_more : {X Y : Type 0} (f : X → Y) (xs : List X) (i : ℕ) (x d : X) → i < length xs → x ≡ get_or xs i d → map f (take i xs) ++ f x ∷ [] ≡ map f (take (i + 1) xs)
seen_more f xs i x d below at = sym (ap (map f) (take_one xs i x d below at) ∙ map-append f (take i xs) (x ∷ []))

-- all are seen
pub seen_all : {X Y : Type 0} (f : X → Y) (xs : List X) (i : ℕ) → length xs ≤ i → map f (take i xs) ≡ map f xs
seen_all f xs i past = ap (map f) (take_all i xs past)

-- one more is put behind what was found
pub put_more : {X Y : Type 0} (f : X → Y) (found new before : List Y) (xs : List X) (i : ℕ) (x d : X) → i < length xs → x ≡ get_or xs i d → found ≡ before ++ map f (take i xs) → new ≡ found ++ f x ∷ [] → new ≡ before ++ map f (take (i + 1) xs)
put_more f found new before xs i x d below at was put =
    put
    ∙ ap (λ ys. ys ++ f x ∷ []) was
    ∙ append_assoc before (map f (take i xs)) (f x ∷ [])
    ∙ ap (λ ys. before ++ ys) (seen_more f xs i x d below at)

-- one that fails a test fails it for all
pub one_fails : {X Y : Type 0} (f : X → Y) (p : Y → Bool) (xs : List X) (i : ℕ) (x : X) → i < length xs → x ≡ get_or xs i x → p (f x) ≡ false → list_all p (map f xs) ≡ false
one_fails f p xs i x h e k = list_all-map p f xs ∙ list_all_at (λ z. p (f z)) xs i x h (ap (λ z. p (f z)) (sym e) ∙ k)
