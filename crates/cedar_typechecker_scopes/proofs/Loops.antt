-- Loops over lists, by index.
use Rattle.std.proofs.Common.{◌≡◌, ℕ, suc, ◌+◌, ◌<◌, ◌≤◌, List, [], ◌∷◌, ◌++◌, length, take, drop, drop-cons, get_or, map, Bool, true, false, ◌||◌, refl, sym, ap, ◌∙◌, append_assoc, append-nil, arith}
use Rattle.std.specs.List.{list_any, flat_map}
use Rattle.std.proofs.lemmas.Grind.{flat_map-append}
use Rattle.std.proofs.Math.Seq.{take-suc}
use Rattle.std.proofs.lemmas.List.{map-append, take_all, take-append-drop}

pub take_one : {X : Type 0} (xs : List X) (i : ℕ) (x d : X) → i < length xs → x ≡ get_or xs i d → take (i + 1) xs ≡ take i xs ++ x ∷ []
take_one xs i x d below at = let next : i + 1 ≡ suc i = omega arith in ap (λ j. take j xs) next ∙ take-suc xs i d below ∙ ap (λ y. take i xs ++ y ∷ []) (sym at)

-- one more is put behind
pub one_more : {X Y Z W : Type 0} (view : Z → Y) (f : W → Y) (g : X → W) (items new : List Z) (before : List Y) (xs : List X) (i : ℕ) (x d : X) (z : Z) → i < length xs → x ≡ get_or xs i d → map view items ≡ before ++ map f (map g (take i xs)) → new ≡ items ++ z ∷ [] → view z ≡ f (g x) → map view new ≡ before ++ map f (map g (take (i + 1) xs))
one_more view f g items new before xs i x d z below at was put seen =
    ap (map view) put
    ∙ map-append view items (z ∷ [])
    ∙ (λ j. was j ++ seen j ∷ [])
    ∙ append_assoc before (map f (map g (take i xs))) (f (g x) ∷ [])
    ∙ ap (λ ys. before ++ ys) (sym (ap (λ ys. map f (map g ys)) (take_one xs i x d below at) ∙ ap (map f) (map-append g (take i xs) (x ∷ [])) ∙ map-append f (map g (take i xs)) (g x ∷ [])))

-- none so far, one here, and none at all
any_append : {Y : Type 0} (p : Y → Bool) (xs ys : List Y) → list_any p (xs ++ ys) ≡ (list_any p xs || list_any p ys)
any_append p [] ys = refl
any_append p (x ∷ xs) ys = ap (λ b. p x || b) (any_append p xs ys) ∙ grouped (p x) (list_any p xs) (list_any p ys)
  where
    grouped : (a b c : Bool) → (a || (b || c)) ≡ ((a || b) || c)
    grouped true b c = refl
    grouped false b c = refl

pub none_more : {X Y : Type 0} (p : Y → Bool) (g : X → Y) (xs : List X) (i : ℕ) (x d : X) → i < length xs → x ≡ get_or xs i d → list_any p (map g (take i xs)) ≡ false → p (g x) ≡ false → list_any p (map g (take (i + 1) xs)) ≡ false
none_more p g xs i x d below at was fails =
    ap (λ ys. list_any p (map g ys)) (take_one xs i x d below at)
    ∙ ap (list_any p) (map-append g (take i xs) (x ∷ []))
    ∙ any_append p (map g (take i xs)) (g x ∷ [])
    ∙ (λ j. was j || (fails j || false))

pub none_at_all : {X Y : Type 0} (p : Y → Bool) (g : X → Y) (xs : List X) (i : ℕ) → length xs ≤ i → list_any p (map g (take i xs)) ≡ false → list_any p (map g xs) ≡ false
none_at_all p g xs i past was = ap (λ ys. list_any p (map g ys)) (sym (take_all i xs past)) ∙ was

drop_here : {X : Type 0} (xs : List X) (i : ℕ) (x d : X) → i < length xs → x ≡ get_or xs i d → drop i xs ≡ x ∷ drop (i + 1) xs
drop_here xs i x d below at = let next : suc i ≡ i + 1 = omega arith in drop-cons xs i d below ∙ (λ j. sym at j ∷ drop (next j) xs)

or_true : (b : Bool) → (b || true) ≡ true
or_true true = refl
or_true false = refl

pub any_here : {X Y : Type 0} (p : Y → Bool) (g : X → Y) (xs : List X) (i : ℕ) (x d : X) → i < length xs → x ≡ get_or xs i d → p (g x) ≡ true → list_any p (map g xs) ≡ true
any_here p g xs i x d below at passes =
    ap (λ ys. list_any p (map g ys)) (sym (take-append-drop i xs) ∙ ap (λ ys. take i xs ++ ys) (drop_here xs i x d below at))
    ∙ ap (list_any p) (map-append g (take i xs) (x ∷ drop (i + 1) xs))
    ∙ any_append p (map g (take i xs)) (g x ∷ map g (drop (i + 1) xs))
    ∙ (λ j. list_any p (map g (take i xs)) || (passes j || list_any p (map g (drop (i + 1) xs))))
    ∙ or_true (list_any p (map g (take i xs)))

-- some more are put behind
pub some_more : {X Y W : Type 0} (f : W → List Y) (g : X → W) (items new before : List Y) (xs : List X) (i : ℕ) (x d : X) → i < length xs → x ≡ get_or xs i d → items ≡ before ++ flat_map f (map g (take i xs)) → new ≡ items ++ f (g x) → new ≡ before ++ flat_map f (map g (take (i + 1) xs))
some_more f g items new before xs i x d below at was put =
    put
    ∙ ap (λ ys. ys ++ f (g x)) was
    ∙ append_assoc before (flat_map f (map g (take i xs))) (f (g x))
    ∙ ap (λ ys. before ++ ys) (sym (ap (λ ys. flat_map f (map g ys)) (take_one xs i x d below at) ∙ ap (flat_map f) (map-append g (take i xs) (x ∷ [])) ∙ flat_map-append f (map g (take i xs)) (g x ∷ []) ∙ ap (λ ys. flat_map f (map g (take i xs)) ++ ys) (append-nil (f (g x)))))
