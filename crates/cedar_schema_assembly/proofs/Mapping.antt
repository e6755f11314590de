-- Lists that are made one item after the other.
use Rattle.std.proofs.Common.{◌≡◌, ◌+◌, ◌<◌, ℕ, List, [], ◌∷◌, ◌++◌, map, take, length, get_or, sym, ap, ◌∙◌}
use Rattle.std.proofs.lemmas.List.{map-append}
use Rattle.std.specs.Prelude.{Contains}
use Rattle.cedar_schema_assembly.proofs.Putting.{next_of}

-- the items so far are what the first few tell, and one more
pub one_mapped : {A B S : Type 0} (f : A → S) (g : B → S) (xs : List A) (i : ℕ) (x : A) (ys zs : List B) (y : B) → i < length xs → x ≡ get_or xs i x → map g ys ≡ map f (take i xs) → zs ≡ ys ++ y ∷ [] → g y ≡ f x → map g zs ≡ map f (take (i + 1) xs)
one_mapped f g xs i x ys zs y l is h push e = ap (map g) push ∙ map-append g ys (y ∷ []) ∙ (λ j. h j ++ e j ∷ []) ∙ sym (next_of f xs i x l is)

-- Where items are made in two steps, the items so far are what the first few tell, and one more.
pub twice_mapped : {A B S X : Type 0} (f : A → B) (h : B → S) (g : X → S) (xs : List A) (i : ℕ) (x : A) (ys zs : List X) (y : X) → i < length xs → x ≡ get_or xs i x → map g ys ≡ map h (map f (take i xs)) → zs ≡ ys ++ y ∷ [] → g y ≡ h (f x)
    → map g zs ≡ map h (map f (take (i + 1) xs))
twice_mapped f h g xs i x ys zs y l is k push e =
    ap (map g) push ∙ map-append g ys (y ∷ []) ∙ (λ j. k j ++ e j ∷ []) ∙ sym (map-append h (map f (take i xs)) (f x ∷ [])) ∙ ap (map h) (sym (next_of f xs i x l is))

-- an item of the list
pub item_at : {A : Type 0} (xs : List A) (i : ℕ) (x : A) → i < length xs → x ≡ get_or xs i x → Contains xs x
item_at xs i x l is = (i, l, sym is)
