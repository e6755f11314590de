-- Lists that are gone over by index, filtered, and found empty.
use Rattle.std.proofs.Common.{◌≡◌, ℕ, suc, ◌+◌, ◌<◌, ◌≤◌, ◌==◌, List, [], ◌∷◌, ◌++◌, length, take, get_or, map, Bool, true, false, ◌&&◌, cond, refl, sym, ap, ◌∙◌, append_assoc, arith, Result, Ok, Err}
use Rattle.std.specs.Prelude.{if◌then◌else◌, IfOk}
use Rattle.std.specs.List.{list_all, filter, flat_map}
use Rattle.std.proofs.Math.Dec.{eqb-suc-zero}
use Rattle.std.proofs.Math.Seq.{take-suc}
use Rattle.std.proofs.lemmas.List.{map-append, take_all}
use Rattle.cedar_expr_model.specs.Lists.{is_nil}

take_one : {X : Type 0} (xs : List X) (i : ℕ) (x d : X) → i < length xs → x ≡ get_or xs i d → take (i + 1) xs ≡ take i xs ++ x ∷ []
take_one xs i x d below at = let next : i + 1 ≡ suc i = omega arith in ap (λ j. take j xs) next ∙ take-suc xs i d below ∙ ap (λ y. take i xs ++ y ∷ []) (sym at)

-- one more is seen, and all
pub seen_more : {X Y : Type 0} (f : X → Y) (xs : List X) (i : ℕ) (x d : X) → i < length xs → x ≡ get_or xs i d → map f (take i xs) ++ f x ∷ [] ≡ map f (take (i + 1) xs)
seen_more f xs i x d below at = sym (ap (map f) (take_one xs i x d below at) ∙ map-append f (take i xs) (x ∷ []))

pub seen_all : {X Y : Type 0} (f : X → Y) (xs : List X) (i : ℕ) → length xs ≤ i → map f (take i xs) ≡ map f xs
seen_all f xs i past = ap (map f) (take_all i xs past)

-- filtered lists, one behind the other
filter_one : {X : Type 0} (p : X → Bool) (x : X) (xs ys : List X) (b : Bool) → p x ≡ b → filter p (xs ++ ys) ≡ filter p xs ++ filter p ys → filter p (x ∷ (xs ++ ys)) ≡ filter p (x ∷ xs) ++ filter p ys
filter_one p x xs ys true h e = rw h (ap (λ zs. x ∷ zs) e)
filter_one p x xs ys false h e = rw h e

pub filter_both : {X : Type 0} (p : X → Bool) (xs ys : List X) → filter p (xs ++ ys) ≡ filter p xs ++ filter p ys
filter_both p [] ys = refl
filter_both p (x ∷ xs) ys = filter_one p x xs ys (p x) refl (filter_both p xs ys)

-- tests that are alike filter alike
filter_next : {X : Type 0} (p q : X → Bool) (x : X) (xs : List X) (b : Bool) → p x ≡ b → q x ≡ b → filter p xs ≡ filter q xs → filter p (x ∷ xs) ≡ filter q (x ∷ xs)
filter_next p q x xs true h k e = rw (h, k) (ap (λ zs. x ∷ zs) e)
filter_next p q x xs false h k e = rw (h, k) e

pub filter_alike : {X : Type 0} (p q : X → Bool) → ((x : X) → p x ≡ q x) → (xs : List X) → filter p xs ≡ filter q xs
filter_alike p q h [] = refl
filter_alike p q h (x ∷ xs) = filter_next p q x xs (q x) (h x) refl (filter_alike p q h xs)

-- lists without items
nil_both : {A : Type 0} (xs ys : List A) → is_nil (xs ++ ys) ≡ (is_nil xs && is_nil ys)
nil_both [] ys = refl
nil_both (x ∷ xs) ys = refl

pub nil_all : {X Y : Type 0} (f : X → List Y) (xs : List X) → list_all (λ x. is_nil (f x)) xs ≡ is_nil (flat_map f xs)
nil_all f [] = refl
nil_all f (x ∷ xs) = ap (λ b. is_nil (f x) && b) (nil_all f xs) ∙ sym (nil_both (f x) (flat_map f xs))

pub nil_map : {X Y : Type 0} (f : X → Y) (xs : List X) → is_nil (map f xs) ≡ is_nil xs
nil_map f [] = refl
nil_map f (x ∷ xs) = refl

pub nil_length : {X : Type 0} (xs : List X) → is_nil xs ≡ (length xs == 0)
nil_length [] = refl
nil_length (x ∷ xs) = sym (eqb-suc-zero (length xs))

-- what is so of what is answered, and what follows from that
pub on_ok : {X E : Type 0} (r : Result X E) (P Q : X → Type 0) → ((x : X) → P x → Q x) → IfOk r P → IfOk r Q
on_ok (Ok x) P Q f h = f x h
on_ok (Err e) P Q f h = tt
