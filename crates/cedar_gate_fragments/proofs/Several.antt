-- What comes of several lists, one after the other.
use Rattle.std.proofs.Common.{◌≡◌, ℕ, ◌+◌, ◌<◌, ◌≤◌, List, [], ◌∷◌, ◌++◌, length, get_or, drop, drop-cons, add-one, append_assoc, Result, Ok, Err, refl, sym, ap, ◌∙◌}
use Rattle.std.specs.Prelude.{flat_map}
use Rattle.std.proofs.lemmas.List.{append-nil, drop_all}
use Rattle.cedar_schema_decl.specs.Requalified.{and_then, each}
use Rattle.cedar_schema_decl.proofs.Gathered.{after}

head_of : {B R : Type 0} (y : B) (as_ : List B) (o : Result (List B) R) → and_then (λ ys. Ok (y ∷ ys)) (after as_ o) ≡ after (y ∷ as_) o
head_of y as_ (Ok ys) = refl
head_of y as_ (Err r) = refl

pub nothing_more : {B R : Type 0} (o : Result (List B) R) → o ≡ after [] o
nothing_more (Ok ys) = refl
nothing_more (Err r) = refl

twice_after : {B R : Type 0} (as_ bs : List B) (o : Result (List B) R) → after as_ (after bs o) ≡ after (as_ ++ bs) o
twice_after as_ bs (Ok ys) = ap Ok (sym (append_assoc as_ bs ys))
twice_after as_ bs (Err r) = refl

module _ {A B R : Type 0} where
  -- of one list and another
  pub each_both : (f : A → Result B R) (xs ys : List A) (as_ : List B) → each f xs ≡ Ok as_ → each f (xs ++ ys) ≡ after as_ (each f ys)
  each_both f [] ys as_ h = nothing_more (each f ys) ∙ ap (λ bs. after bs (each f ys)) (let e : [] ≡ as_ = cc in e)
  each_both f (x ∷ xs) ys as_ h = go (f x) (each f xs) refl h (each_both f xs ys)
    where
      go : (o : Result B R) (rest : Result (List B) R) → each f xs ≡ rest → and_then (λ y. and_then (λ zs. Ok (y ∷ zs)) rest) o ≡ Ok as_
          → ((bs : List B) → each f xs ≡ Ok bs → each f (xs ++ ys) ≡ after bs (each f ys))
          → and_then (λ y. and_then (λ zs. Ok (y ∷ zs)) (each f (xs ++ ys))) o ≡ after as_ (each f ys)
      go (Ok y) (Ok zs) e k on =
          let made : y ∷ zs ≡ as_ = cc in
          ap (and_then (λ ws. Ok (y ∷ ws))) (on zs e) ∙ head_of y zs (each f ys) ∙ ap (λ bs. after bs (each f ys)) made
      go (Ok y) (Err r) e k on = absurd (cc)
      go (Err r) rest e k on = absurd (cc)

  pub each_not : (f : A → Result B R) (xs ys : List A) (r : R) → each f xs ≡ Err r → each f (xs ++ ys) ≡ Err r
  each_not f [] ys r h = absurd (cc)
  each_not f (x ∷ xs) ys r h = go (f x) (each f xs) refl h (each_not f xs ys)
    where
      go : (o : Result B R) (rest : Result (List B) R) → each f xs ≡ rest → and_then (λ y. and_then (λ zs. Ok (y ∷ zs)) rest) o ≡ Err r
          → ((q : R) → each f xs ≡ Err q → each f (xs ++ ys) ≡ Err q)
          → and_then (λ y. and_then (λ zs. Ok (y ∷ zs)) (each f (xs ++ ys))) o ≡ Err r
      go (Ok y) (Ok zs) e k on = absurd (cc)
      go (Ok y) (Err q) e k on = let same : q ≡ r = cc in ap (and_then (λ ws. Ok (y ∷ ws))) (on q e) ∙ ap Err same
      go (Err q) rest e k on = k

  -- a walk along lists of parts: what was made so far, and then what comes of the rest
  module _ {P : Type 0} (f : A → Result B R) (parts : P → List A) (all : List P) (i : ℕ) (d : P) where
    at_part : i < length all → flat_map parts (drop i all) ≡ parts (get_or all i d) ++ flat_map parts (drop (i + 1) all)
    at_part h = ap (flat_map parts) (drop-cons all i d h ∙ ap (λ (n : ℕ). get_or all i d ∷ drop n all) (sym (add-one i)))

    pub walk_goes : (done more made : List B) → i < length all → each f (flat_map parts all) ≡ after done (each f (flat_map parts (drop i all))) → each f (parts (get_or all i d)) ≡ Ok made → more ≡ done ++ made
        → each f (flat_map parts all) ≡ after more (each f (flat_map parts (drop (i + 1) all)))
    walk_goes done more made h so_far one_ e =
        so_far
        ∙ ap (λ xs. after done (each f xs)) (at_part h)
        ∙ ap (after done) (each_both f (parts (get_or all i d)) (flat_map parts (drop (i + 1) all)) made one_)
        ∙ twice_after done made (each f (flat_map parts (drop (i + 1) all)))
        ∙ ap (λ bs. after bs (each f (flat_map parts (drop (i + 1) all)))) (sym e)

    pub walk_wrong : (done : List B) (r : R) → i < length all → each f (flat_map parts all) ≡ after done (each f (flat_map parts (drop i all))) → each f (parts (get_or all i d)) ≡ Err r → each f (flat_map parts all) ≡ Err r
    walk_wrong done r h so_far one_ =
        so_far
        ∙ ap (λ xs. after done (each f xs)) (at_part h)
        ∙ ap (after done) (each_not f (parts (get_or all i d)) (flat_map parts (drop (i + 1) all)) r one_)

  pub walk_ends : {P : Type 0} (f : A → Result B R) (parts : P → List A) (all : List P) (i : ℕ) (done : List B) → length all ≤ i → each f (flat_map parts all) ≡ after done (each f (flat_map parts (drop i all))) → each f (flat_map parts all) ≡ Ok done
  walk_ends f parts all i done h so_far = so_far ∙ ap (λ xs. after done (each f (flat_map parts xs))) (drop_all i all h) ∙ ap Ok (append-nil done)
