-- Environments one by one, and those that are filtered.
use Rattle.std.proofs.Common.{◌≡◌, Bool, true, false, List, [], ◌∷◌, ◌&&◌, ◌||◌, refl, ap, sym, ◌∙◌}
use Rattle.std.specs.Prelude.{not}
use Rattle.std.specs.List.{list_all, filter}

one_filtered : {X : Type 0} (f g : X → Bool) (x : X) (xs : List X) (done : Bool) (b : Bool) → g x ≡ b → done ≡ list_all f (filter g xs) → ((not (g x) || f x) && done) ≡ list_all f (filter g (x ∷ xs))
one_filtered f g x xs done true h e = rw h (ap (λ c. f x && c) e)
one_filtered f g x xs done false h e = rw h e

pub all_filtered : {X : Type 0} (f g : X → Bool) (xs : List X) → list_all (λ x. not (g x) || f x) xs ≡ list_all f (filter g xs)
all_filtered f g [] = refl
all_filtered f g (x ∷ xs) = one_filtered f g x xs (list_all (λ y. not (g y) || f y) xs) (g x) refl (all_filtered f g xs)

filtered_twice : {X : Type 0} (g h : X → Bool) (xs : List X) → filter h (filter g xs) ≡ filter (λ x. g x && h x) xs
filtered_twice g h [] = refl
filtered_twice g h (x ∷ xs) = go (g x) (h x) refl refl (filtered_twice g h xs)
  where
    go : (b c : Bool) → g x ≡ b → h x ≡ c → filter h (filter g xs) ≡ filter (λ y. g y && h y) xs → filter h (filter g (x ∷ xs)) ≡ filter (λ y. g y && h y) (x ∷ xs)
    go true true p q e = rw (p, q) (ap (λ ys. x ∷ ys) e)
    go true false p q e = rw (p, q) e
    go false c p q e = rw p e

pub all_filtered_twice : {X : Type 0} (f g h : X → Bool) (xs : List X) → list_all (λ x. not (g x && h x) || f x) xs ≡ list_all f (filter h (filter g xs))
all_filtered_twice f g h xs = all_filtered f (λ x. g x && h x) xs ∙ ap (list_all f) (sym (filtered_twice g h xs))

-- what is asked of an environment, and of one that isn't asked for
pub asked_here : (a b : Bool) → a ≡ true → b ≡ (not a || b)
asked_here a b h = sym (ap (λ c. not c || b) h)

pub not_asked : (a b : Bool) → a ≡ false → true ≡ (not a || b)
not_asked a b h = sym (ap (λ c. not c || b) h)
