-- What a writer holds grows by one piece after another.
use Rattle.std.proofs.Common.{◌≡◌, ◌+◌, ◌<◌, ℕ, List, [], ◌∷◌, ◌++◌, map, get_or, take, drop, length, ◌-◌, arith, Option, Some, None, sym, ap, ◌∙◌, append_assoc}
use Rattle.std.proofs.Math.Seq.{take-add}
use Rattle.std.proofs.lemmas.List.{take_all, take_more, flat_map_more, map-append, length-drop}
use Rattle.std.specs.List.{flat_map}
use Rattle.std.specs.Io.KnownBytes.{Appends}

pub appends_both : (old mid new : Option (List ℕ)) (xs ys zs : List ℕ) → xs ++ ys ≡ zs → Appends old mid xs → Appends mid new ys → Appends old new zs
appends_both None mid new xs ys zs e first next = tt
appends_both (Some a) None new xs ys zs e first next = absurd first
appends_both (Some a) (Some b) None xs ys zs e first next = absurd next
appends_both (Some a) (Some b) (Some c) xs ys zs e first next =
    next ∙ (ap (λ t. t ++ ys) first ∙ (append_assoc a xs ys ∙ ap (λ t. a ++ t) e))

-- a further piece of a text
pub appends_more : (old mid new : Option (List ℕ)) (text : List ℕ) (done n : ℕ) → Appends old mid (take done text) → Appends mid new (take n (drop done text))
    → Appends old new (take (done + n) text)
appends_more old mid new text done n first next = appends_both old mid new _ _ _ (sym (take-add done n text)) first next

-- what stands from here to the end
pub to_the_end : (text : List ℕ) (done : ℕ) → take (length text - done) (drop done text) ≡ drop done text
to_the_end text done = take_all _ _ (omega (arith, length-drop done text))

-- a further piece of a text that is made of one for each of a list
pub mapped_more : {X Y : Type 0} (f : Y → List ℕ) (v : X → Y) (base now next : List ℕ) (xs : List X) (i : ℕ) (x : X) → i < length xs → x ≡ get_or xs i x → now ≡ base ++ flat_map f (map v (take i xs)) → next ≡ now ++ f (v x)
    → next ≡ base ++ flat_map f (map v (take (i + 1) xs))
mapped_more f v base now next xs i x within at so more =
    let taken : take (i + 1) xs ≡ take i xs ++ x ∷ [] = take_more xs i x within ∙ ap (λ y. take i xs ++ y ∷ []) (sym at) in
    more ∙ ap (λ t. t ++ f (v x)) so ∙ flat_map_more f base (map v (take i xs)) (v x) ∙ ap (λ ys. base ++ flat_map f ys) (sym (ap (map v) taken ∙ map-append v (take i xs) (x ∷ [])))
