-- Lists: what they contain, and tests, filters and maps of them.
use Rattle.std.proofs.Common.{◌≡◌, ℕ, zero, suc, ◌<◌, List, [], ◌∷◌, Bool, true, false, cond, ◌&&◌, ◌||◌, map, length, refl, sym, ap, ◌∙◌, subst, ⊎_elim, arith}
use Rattle.std.specs.Prelude.{Contains, slice_index_or}
use Rattle.std.specs.Bool.{Decides}
use Rattle.std.specs.List.{list_all, list_any, flat_map, filter}
use Rattle.std.proofs.lemmas.List.Concat.{flat_map-cons}
use Rattle.std.proofs.lemmas.List.Elements.{Contains-append_left, Contains-append_right, Contains-append_cases}

-- conjunctions that hold
pub both_hold : (a b : Bool) → (a && b) ≡ true → (a ≡ true) × (b ≡ true)
both_hold true b h = (refl, h)
both_hold false b h = cc

pub hold_both : (a b : Bool) → a ≡ true → b ≡ true → (a && b) ≡ true
hold_both true b e f = f
hold_both false b e f = cc

pub hold_left : (a b : Bool) → a ≡ true → (a || b) ≡ true
hold_left true b e = refl
hold_left false b e = cc

pub hold_right : (a b : Bool) → b ≡ true → (a || b) ≡ true
hold_right true b e = refl
hold_right false b e = e

-- the first item, and those after it
pub contains_head : {X : Type 0} (x : X) (xs : List X) → Contains (x ∷ xs) x
contains_head x xs = (0, omega arith, refl)

pub contains_tail : {X : Type 0} (y : X) (xs : List X) (x : X) → Contains xs x → Contains (y ∷ xs) x
contains_tail y xs x h = let k = h.1 in (suc h.0, omega arith, h.2)

pub contains_cases : {X : Type 0} (P : Type 0) (y : X) (xs : List X) (x : X) → Contains (y ∷ xs) x → (y ≡ x → P) → (Contains xs x → P) → P
contains_cases P y xs x h f g = go h.0 h.1 h.2
  where
    go : (k : ℕ) → k < length (y ∷ xs) → slice_index_or (y ∷ xs) k x ≡ x → P
    go zero l e = f e
    go (suc k) l e = g (k, omega arith, e)

pub contains_none : {X : Type 0} (x : X) → Contains {X = X} [] x → ⊥
contains_none x h = let k = h.1 in omega arith

-- The filtered list has what passes, and only that.
filter_step : {X : Type 0} (p : X → Bool) (y : X) (xs : List X) (t : Bool) → p y ≡ t → cond t (y ∷ filter p xs) (filter p xs) ≡ filter p (y ∷ xs)
filter_step p y xs t e = ap (λ s. cond s (y ∷ filter p xs) (filter p xs)) (sym e)

pub filter_has : {X : Type 0} (p : X → Bool) (xs : List X) (x : X) → Contains xs x → p x ≡ true → Contains (filter p xs) x
filter_has p [] x h e = absurd (contains_none x h)
filter_has {X} p (y ∷ xs) x h e = contains_cases (Contains (filter p (y ∷ xs)) x) y xs x h (λ q. here q) (λ k. there (p y) refl (filter_has p xs x k e))
  where
    here : y ≡ x → Contains (filter p (y ∷ xs)) x
    here q =
        let t : p y ≡ true = ap p q ∙ e in
        subst (λ l. Contains l x) (filter_step p y xs true t) (subst (λ z. Contains (z ∷ filter p xs) x) (sym q) (contains_head x (filter p xs)))

    there : (t : Bool) → p y ≡ t → Contains (filter p xs) x → Contains (filter p (y ∷ xs)) x
    there true t k = subst (λ l. Contains l x) (filter_step p y xs true t) (contains_tail y (filter p xs) x k)
    there false t k = subst (λ l. Contains l x) (filter_step p y xs false t) k

-- in the list, and passing the test
abbrev IsKept : {X : Type 0} → (X → Bool) → List X → X → Type 0
IsKept p xs x = Contains xs x × (p x ≡ true)

kept_later : {X : Type 0} (p : X → Bool) (y : X) (xs : List X) (x : X) → IsKept p xs x → IsKept p (y ∷ xs) x
kept_later p y xs x k = (contains_tail y xs x k.0, k.1)

filter_case : {X : Type 0} (p : X → Bool) (y : X) (xs : List X) (x : X) (t : Bool) → p y ≡ t → (Contains (filter p xs) x → IsKept p xs x) → Contains (cond t (y ∷ filter p xs) (filter p xs)) x → IsKept p (y ∷ xs) x
filter_case p y xs x true e rest h =
    contains_cases (IsKept p (y ∷ xs) x) y (filter p xs) x h
    (λ q. (subst (λ z. Contains (z ∷ xs) x) (sym q) (contains_head x xs), ap p (sym q) ∙ e))
    (λ k. kept_later p y xs x (rest k))
filter_case p y xs x false e rest h = kept_later p y xs x (rest h)

pub filter_only : {X : Type 0} (p : X → Bool) (xs : List X) (x : X) → Contains (filter p xs) x → Contains xs x × (p x ≡ true)
filter_only p [] x h = absurd (contains_none x h)
filter_only p (y ∷ xs) x h = filter_case p y xs x (p y) refl (filter_only p xs x) h

-- a test of each item
pub all_each : {X : Type 0} (p : X → Bool) (xs : List X) → list_all p xs ≡ true → (x : X) → Contains xs x → p x ≡ true
all_each p [] h x k = absurd (contains_none x k)
all_each p (y ∷ xs) h x k =
    let q = both_hold (p y) (list_all p xs) h in
    contains_cases (p x ≡ true) y xs x k (λ e. ap p (sym e) ∙ q.0) (all_each p xs q.1 x)

pub all_from : {X : Type 0} (p : X → Bool) (xs : List X) → ((x : X) → Contains xs x → p x ≡ true) → list_all p xs ≡ true
all_from p [] h = refl
all_from p (y ∷ xs) h = hold_both (p y) (list_all p xs) (h y (contains_head y xs)) (all_from p xs (λ x k. h x (contains_tail y xs x k)))

pub all-Decides : {X : Type 0} (p : X → Bool) (P : X → Type 0) → ((x : X) → Decides (p x) (P x)) → (xs : List X) → Decides (list_all p xs) ((x : X) → Contains xs x → P x)
all-Decides p P each xs = (λ h x k. (each x).0 (all_each p xs h x k), λ h. all_from p xs (λ x k. (each x).1 (h x k)))

-- a test of some item
pub any_has : {X : Type 0} (p : X → Bool) (xs : List X) (x : X) → Contains xs x → p x ≡ true → list_any p xs ≡ true
any_has p [] x h e = absurd (contains_none x h)
any_has p (y ∷ xs) x h e = contains_cases (list_any p (y ∷ xs) ≡ true) y xs x h (λ q. hold_left (p y) (list_any p xs) (ap p q ∙ e)) (λ k. hold_right (p y) (list_any p xs) (any_has p xs x k e))

any_case : {X : Type 0} (p : X → Bool) (y : X) (xs : List X) (t : Bool) → p y ≡ t → (list_any p xs ≡ true → (x : X) × Contains xs x × (p x ≡ true)) → (t || list_any p xs) ≡ true → (x : X) × Contains (y ∷ xs) x × (p x ≡ true)
any_case p y xs true e rest h = (y, contains_head y xs, e)
any_case p y xs false e rest h = let r = rest h in (r.0, contains_tail y xs r.0 r.1, r.2)

pub any_from : {X : Type 0} (p : X → Bool) (xs : List X) → list_any p xs ≡ true → (x : X) × Contains xs x × (p x ≡ true)
any_from p [] h = cc
any_from p (y ∷ xs) h = any_case p y xs (p y) refl (any_from p xs) h

pub any-Decides : {X : Type 0} (p : X → Bool) (P : X → Type 0) → ((x : X) → Decides (p x) (P x)) → (xs : List X) → Decides (list_any p xs) ((x : X) × Contains xs x × P x)
any-Decides p P each xs = (λ h. let r = any_from p xs h in (r.0, r.1, (each r.0).0 r.2), λ h. any_has p xs h.0 h.1 ((each h.0).1 h.2))

-- an equal item is found exactly where the list has it
pub found-Decides : {X : Type 0} (eq : X → X → Bool) → ((x y : X) → Decides (eq x y) (x ≡ y)) → (x : X) (xs : List X) → Decides (list_any (eq x) xs) (Contains xs x)
found-Decides eq each x xs = (λ h. let r = any_from (eq x) xs h in subst (Contains xs) (sym ((each x r.0).0 r.2)) r.1, λ h. any_has (eq x) xs x h ((each x x).1 refl))

-- maps
pub map_has : {X Y : Type 0} (f : X → Y) (xs : List X) (x : X) → Contains xs x → Contains (map f xs) (f x)
map_has f [] x h = absurd (contains_none x h)
map_has f (y ∷ xs) x h = contains_cases (Contains (map f (y ∷ xs)) (f x)) y xs x h (λ q. subst (λ z. Contains (z ∷ map f xs) (f x)) (ap f (sym q)) (contains_head (f x) (map f xs))) (λ k. contains_tail (f y) (map f xs) (f x) (map_has f xs x k))

pub map_from : {X Y : Type 0} (f : X → Y) (xs : List X) (y : Y) → Contains (map f xs) y → (x : X) × Contains xs x × (f x ≡ y)
map_from f [] y h = absurd (contains_none y h)
map_from {X} f (z ∷ xs) y h = contains_cases ((x : X) × Contains (z ∷ xs) x × (f x ≡ y)) (f z) (map f xs) y h (λ q. (z, contains_head z xs, q)) (λ k. let r = map_from f xs y k in (r.0, contains_tail z xs r.0 r.1, r.2))

pub flat_has : {X Y : Type 0} (f : X → List Y) (xs : List X) (x : X) (y : Y) → Contains xs x → Contains (f x) y → Contains (flat_map f xs) y
flat_has f [] x y h k = absurd (contains_none x h)
flat_has f (z ∷ xs) x y h k =
    contains_cases (Contains (flat_map f (z ∷ xs)) y) z xs x h
    (λ q. subst (λ l. Contains l y) (sym (flat_map-cons f z xs)) (Contains-append_left (f z) (flat_map f xs) y (subst (λ v. Contains (f v) y) (sym q) k)))
    (λ m. subst (λ l. Contains l y) (sym (flat_map-cons f z xs)) (Contains-append_right (f z) (flat_map f xs) y (flat_has f xs x y m k)))

pub flat_from : {X Y : Type 0} (f : X → List Y) (xs : List X) (y : Y) → Contains (flat_map f xs) y → (x : X) × Contains xs x × Contains (f x) y
flat_from f [] y h = absurd (contains_none y h)
flat_from {X} f (z ∷ xs) y h = ⊎_elim (λ k. (z, contains_head z xs, k)) (λ k. let r = flat_from f xs y k in (r.0, contains_tail z xs r.0 r.1, r.2)) (Contains-append_cases (f z) (flat_map f xs) y (subst (λ l. Contains l y) (flat_map-cons f z xs) h))
