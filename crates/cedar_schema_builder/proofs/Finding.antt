-- What is found in lists one after the other, and in parts of which each has a list.
use Rattle.std.proofs.Common.{◌≡◌, ◌<◌, ◌≤◌, ◌+◌, ℕ, Bool, true, false, cond, ◌||◌, List, [], ◌∷◌, ◌++◌, map, length, get_or, drop, Option, Some, None, find, refl, sym, ap, ◌∙◌}
use Rattle.std.proofs.lemmas.List.{at_drop_more, at_drop_all}
use Rattle.std.proofs.lemmas.Grind.{flat_map-append}
use Rattle.std.proofs.lemmas.List.Folds.{flat_map-map}
use Rattle.std.specs.Prelude.{is_some}
use Rattle.std.specs.List.{flat_map, list_any}
use Rattle.std.specs.Option.{option_or}
use Rattle.cedar_expr_model.specs.Name.{Name}

-- the first of two
or_case : {A : Type 0} (b : Bool) (x : A) (o q : Option A) → option_or (cond b (Some x) o) q ≡ cond b (Some x) (option_or o q)
or_case true x o q = refl
or_case false x o q = refl

pub find_append : {A : Type 0} (p : A → Bool) (xs ys : List A) → find p (xs ++ ys) ≡ option_or (find p xs) (find p ys)
find_append p [] ys = refl
find_append p (x ∷ xs) ys = ap (cond (p x) (Some x)) (find_append p xs ys) ∙ sym (or_case (p x) x (find p xs) (find p ys))

-- whether there is one
pub some_found : {A : Type 0} (p : A → Bool) (xs : List A) → is_some (find p xs) ≡ list_any p xs
some_found p [] = refl
some_found p (x ∷ xs) = go (p x) (some_found p xs)
  where
    go : (b : Bool) → is_some (find p xs) ≡ list_any p xs → is_some (cond b (Some x) (find p xs)) ≡ (b || list_any p xs)
    go true h = refl
    go false h = h

module _ (p : Name → Bool) where
  pub found_before : (xs ys : List Name) (n : Name) → Some n ≡ find p xs → Some n ≡ find p (xs ++ ys)
  found_before xs ys n h = ap (λ o. option_or o (find p ys)) h ∙ sym (find_append p xs ys)

  pub found_after : (xs ys : List Name) (o : Option Name) → None ≡ find p xs → o ≡ find p ys → o ≡ find p (xs ++ ys)
  found_after xs ys o h e = e ∙ ap (λ q. option_or q (find p ys)) h ∙ sym (find_append p xs ys)

  pub found_head : (x : Name) (ys : List Name) (n : Name) → Some n ≡ find p (x ∷ []) → Some n ≡ find p (x ∷ ys)
  found_head x ys n h = found_before (x ∷ []) ys n h

  pub found_tail : (x : Name) (ys : List Name) (o : Option Name) → None ≡ find p (x ∷ []) → o ≡ find p ys → o ≡ find p (x ∷ ys)
  found_tail x ys o h e = found_after (x ∷ []) ys o h e

  -- in parts: none so far, and one more
  module _ {E : Type 0} (f : E → List Name) where
    pub passes_found : (es : List E) (i : ℕ) (d : E) (n : Name) (whole : Option Name) → i < length es → Some n ≡ find p (f (get_or es i d)) → whole ≡ find p (flat_map f (drop i es)) → Some n ≡ whole
    passes_found es i d n whole l h so = found_before (f (get_or es i d)) (flat_map f (drop (i + 1) es)) n h ∙ sym (at_drop_more (λ ys. find p (flat_map f ys)) es i d l) ∙ sym so

    pub passes_one : (es : List E) (i : ℕ) (d : E) (whole : Option Name) → i < length es → None ≡ find p (f (get_or es i d)) → whole ≡ find p (flat_map f (drop i es)) → whole ≡ find p (flat_map f (drop (i + 1) es))
    passes_one es i d whole l h so =
        so
        ∙ at_drop_more (λ ys. find p (flat_map f ys)) es i d l
        ∙ sym (found_after (f (get_or es i d)) (flat_map f (drop (i + 1) es)) (find p (flat_map f (drop (i + 1) es))) h refl)

    pub passes_all : (es : List E) (i : ℕ) (whole : Option Name) → length es ≤ i → whole ≡ find p (flat_map f (drop i es)) → None ≡ whole
    passes_all es i whole l so = sym (so ∙ at_drop_all (λ ys. find p (flat_map f ys)) es i l)

  -- in parts that are seen
  pub found_seen : {E F : Type 0} (f : F → List Name) (g : E → F) (es : List E) (o : Option Name) → o ≡ find p (flat_map (λ e. f (g e)) es) → o ≡ find p (flat_map f (map g es))
  found_seen f g es o h = h ∙ ap (find p) (sym (flat_map-map f g es))

-- each part alone
pub one_seen : {E F : Type 0} (k : F → Name) (g : E → F) (es : List E) → flat_map (λ e. k (g e) ∷ []) es ≡ map k (map g es)
one_seen k g [] = refl
one_seen k g (e ∷ es) = ap (λ ns. k (g e) ∷ ns) (one_seen k g es)

-- lists of lists
pub flat_map-flat : {E F : Type 0} (f : F → List Name) (g : E → List F) (es : List E) → flat_map f (flat_map g es) ≡ flat_map (λ e. flat_map f (g e)) es
flat_map-flat f g [] = refl
flat_map-flat f g (e ∷ es) = flat_map-append f (g e) (flat_map g es) ∙ ap (λ ns. flat_map f (g e) ++ ns) (flat_map-flat f g es)
