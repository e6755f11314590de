-- What is put in a list, one for each entry of a group.
use Rattle.std.proofs.Common.{◌≡◌, Bool, ◌||◌, List, [], ◌∷◌, ◌++◌, map, Option, Some, None, append_assoc, refl, sym, ap, ◌∙◌}
use Rattle.std.proofs.lemmas.List.{append-nil, map-append}
use Rattle.std.specs.List.{list_any, filter_map, cons_option}

-- `of` is what one that was put there is in the model, `left` what the model has of an entry
module _ {E N M P : Type 0} (seen : E → N) (left : N → M) (of : P → M) where
  -- one more: what is there, and then what the entries to come give, stays
  pub one_more : (start : List M) (done more : List P) (all rest later : List E) (x : E) (p : P) → map of done ++ map left (map seen rest) ≡ start ++ map left (map seen all) → rest ≡ x ∷ later → more ≡ done ++ p ∷ [] → of p ≡ left (seen x) → map of more ++ map left (map seen later) ≡ start ++ map left (map seen all)
  one_more start done more all rest later x p h is n made =
      ap (λ ps. map of ps ++ map left (map seen later)) n
      ∙ ap (λ ms. ms ++ map left (map seen later)) (map-append of done (p ∷ []))
      ∙ append_assoc (map of done) (of p ∷ []) (map left (map seen later))
      ∙ ap (λ m. map of done ++ m ∷ map left (map seen later)) made
      ∙ ap (λ es. map of done ++ map left (map seen es)) (sym is)
      ∙ h

  -- where there is none to come
  pub at_end : (start : List M) (done : List P) (all rest : List E) → map of done ++ map left (map seen rest) ≡ start ++ map left (map seen all) → rest ≡ [] → map of done ≡ start ++ map left (map seen all)
  at_end start done all rest h is = sym (append-nil (map of done)) ∙ ap (λ es. map of done ++ map left (map seen es)) (sym is) ∙ h

-- a test of what is seen
pub any_seen : {A B : Type 0} (f : A → B) (p : B → Bool) (xs : List A) → list_any (λ x. p (f x)) xs ≡ list_any p (map f xs)
any_seen f p [] = refl
any_seen f p (x ∷ xs) = ap (λ b. p (f x) || b) (any_seen f p xs)

-- what is seen of what is seen
pub seen_twice : {A B C : Type 0} (f : A → B) (g : B → C) (xs : List A) → map g (map f xs) ≡ map (λ x. g (f x)) xs
seen_twice f g [] = refl
seen_twice f g (x ∷ xs) = ap (λ ys. g (f x) ∷ ys) (seen_twice f g xs)

-- what entries give that may give nothing
module _ {E N M P : Type 0} (seen : E → N) (left : N → Option M) (of : P → M) where
  pub one_kept : (start : List M) (done more : List P) (all rest later : List E) (x : E) (p : P) → map of done ++ filter_map left (map seen rest) ≡ start ++ filter_map left (map seen all) → rest ≡ x ∷ later → more ≡ done ++ p ∷ [] → left (seen x) ≡ Some (of p) → map of more ++ filter_map left (map seen later) ≡ start ++ filter_map left (map seen all)
  one_kept start done more all rest later x p h is n made =
      ap (λ ps. map of ps ++ filter_map left (map seen later)) n
      ∙ ap (λ ms. ms ++ filter_map left (map seen later)) (map-append of done (p ∷ []))
      ∙ append_assoc (map of done) (of p ∷ []) (filter_map left (map seen later))
      ∙ ap (λ o. map of done ++ cons_option o (filter_map left (map seen later))) (sym made)
      ∙ ap (λ es. map of done ++ filter_map left (map seen es)) (sym is)
      ∙ h

  pub one_passed : (start : List M) (done : List P) (all rest later : List E) (x : E) → map of done ++ filter_map left (map seen rest) ≡ start ++ filter_map left (map seen all) → rest ≡ x ∷ later → left (seen x) ≡ None → map of done ++ filter_map left (map seen later) ≡ start ++ filter_map left (map seen all)
  one_passed start done all rest later x h is made =
      ap (λ o. map of done ++ cons_option o (filter_map left (map seen later))) (sym made)
      ∙ ap (λ es. map of done ++ filter_map left (map seen es)) (sym is)
      ∙ h

-- what is put at the end in turn
module _ {A B : Type 0} (f : A → B) where
  pub from_two : (none one two : List A) (as_ bs : List B) → none ≡ [] → map f one ≡ map f none ++ as_ → map f two ≡ map f one ++ bs → map f two ≡ as_ ++ bs
  from_two none one two as_ bs e h k = k ∙ ap (λ xs. xs ++ bs) (h ∙ ap (λ n. map f n ++ as_) e)

  pub from_three : (none one two three : List A) (as_ bs cs : List B) → none ≡ [] → map f one ≡ map f none ++ as_ → map f two ≡ map f one ++ bs → map f three ≡ map f two ++ cs → map f three ≡ as_ ++ (bs ++ cs)
  from_three none one two three as_ bs cs e h k l = l ∙ ap (λ xs. xs ++ cs) (from_two none one two as_ bs e h k) ∙ append_assoc as_ bs cs

  pub three_more : (one two three four : List A) (as_ bs cs : List B) → map f two ≡ map f one ++ as_ → map f three ≡ map f two ++ bs → map f four ≡ map f three ++ cs → map f four ≡ map f one ++ (as_ ++ (bs ++ cs))
  three_more one two three four as_ bs cs h k l =
      l
      ∙ ap (λ xs. xs ++ cs) (k ∙ ap (λ xs. xs ++ bs) h ∙ append_assoc (map f one) as_ bs)
      ∙ append_assoc (map f one) (as_ ++ bs) cs
      ∙ ap (λ xs. map f one ++ xs) (append_assoc as_ bs cs)

-- what is seen of two lists
pub both_seen : {A B : Type 0} (f : A → B) (xs ys : List A) → map f xs ++ map f ys ≡ map f (xs ++ ys)
both_seen f xs ys = sym (map-append f xs ys)
