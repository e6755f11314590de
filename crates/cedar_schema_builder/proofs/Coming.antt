-- What came before what came after it, or before a refusal, and what comes of lists.
use Rattle.std.proofs.Common.{◌≡◌, Bool, true, false, cond, List, [], ◌∷◌, ◌++◌, map, Some, None, find, Result, Ok, Err, refl, sym, ap, ◌∙◌, subst, inl, inr}
use Rattle.std.proofs.lemmas.Bool.{true≢false}
use Rattle.std.proofs.lemmas.List.Folds.{flat_map-map}
use Rattle.std.specs.Prelude.{Contains, ◌⊎◌}
use Rattle.std.specs.List.{flat_map}
use Rattle.cedar_expr_model.proofs.Lists.{contains_head, contains_tail, contains_cases, contains_none}
use Rattle.cedar_schema_decl.specs.Requalified.{and_then, each}

abbrev pub made : {A R : Type 0} → A → Result A R
made x = Ok x

abbrev pub refused : {A R : Type 0} → R → Result A R
refused r = Err r

pub ok_same : {A R : Type 0} (x y : A) → made {R = R} x ≡ Ok y → x ≡ y
ok_same x y h = cc

pub err_same : {A R : Type 0} (q r : R) → refused {A = A} q ≡ Err r → q ≡ r
err_same q r h = cc

pub not_both : {A R : Type 0} (o : Result A R) (x : A) (r : R) → o ≡ Ok x → o ≡ Err r → ⊥
not_both (Ok y) x r h k = absurd (cc)
not_both (Err q) x r h k = absurd (cc)

-- what came first, and what came after it
pub bind_made : {A B R : Type 0} (f : A → Result B R) (o : Result A R) (y : B) → and_then f o ≡ Ok y → (x : A) × (o ≡ Ok x) × (f x ≡ Ok y)
bind_made f (Ok x) y h = (x, refl, h)
bind_made f (Err r) y h = absurd (cc)

-- what was refused: the first, or what comes after it
pub bind_refused : {A B R : Type 0} (f : A → Result B R) (o : Result A R) (r : R) → and_then f o ≡ Err r → (o ≡ Err r) ⊎ ((x : A) × (o ≡ Ok x) × (f x ≡ Err r))
bind_refused f (Ok x) r h = inr (x, refl, h)
bind_refused {A} {B} f (Err q) r h = inl (ap (λ z. refused {A = A} z) (err_same {A = B} q r h))

-- the last part is never refused
pub last_refused : {A B R : Type 0} (f : A → B) (o : Result A R) (r : R) → and_then (λ x. made {R = R} (f x)) o ≡ Err r → o ≡ Err r
last_refused f (Ok x) r h = absurd (cc)
last_refused {A} {B} f (Err q) r h = ap (λ z. refused {A = A} z) (err_same {A = B} q r h)

-- what is found is there, and passes; where nothing is found, none passes
pub found_there : {A : Type 0} (p : A → Bool) (xs : List A) (y : A) → find p xs ≡ Some y → Contains xs y × (p y ≡ true)
found_there p [] y h = absurd (cc)
found_there {A} p (x ∷ xs) y h = go (found_there p xs y) (p x) refl h
  where
    same : Some x ≡ Some y → x ≡ y
    same e = cc

    go : (find p xs ≡ Some y → Contains xs y × (p y ≡ true)) → (b : Bool) → p x ≡ b → cond b (Some x) (find p xs) ≡ Some y → Contains (x ∷ xs) y × (p y ≡ true)
    go later true e k = subst (λ (z : A). Contains (x ∷ xs) z × (p z ≡ true)) (same k) (contains_head x xs, e)
    go later false e k = let r = later k in (contains_tail x xs y r.0, r.1)

pub none_found : {A : Type 0} (p : A → Bool) (xs : List A) → find p xs ≡ None → (y : A) → Contains xs y → p y ≡ true → ⊥
none_found p [] h y c t = contains_none y c
none_found {A} p (x ∷ xs) h y c t = go (none_found p xs) (p x) refl h
  where
    go : (find p xs ≡ None → (z : A) → Contains xs z → p z ≡ true → ⊥) → (b : Bool) → p x ≡ b → cond b (Some x) (find p xs) ≡ None → ⊥
    go later true e k = absurd (cc)
    go later false e k = contains_cases ⊥ x xs y c (λ q. true≢false (sym t ∙ ap p (sym q) ∙ e)) (λ d. later k y d t)

module _ {A B R : Type 0} (f : A → Result B R) where
  -- the first of a list, and those after it
  pub each_made : (x : A) (xs : List A) (ys : List B) → each f (x ∷ xs) ≡ Ok ys → (v : B) × (vs : List B) × (f x ≡ Ok v) × (each f xs ≡ Ok vs) × (v ∷ vs ≡ ys)
  each_made x xs ys h =
      let a = bind_made (λ y. and_then (λ zs. Ok (y ∷ zs)) (each f xs)) (f x) ys h in
      let b = bind_made (λ zs. Ok (a.0 ∷ zs)) (each f xs) ys a.2 in
      (a.0, b.0, a.1, b.1, ok_same (a.0 ∷ b.0) ys b.2)

  -- what one of them came of
  pub each_from : (xs : List A) (ys : List B) → each f xs ≡ Ok ys → (y : B) → Contains ys y → (x : A) × Contains xs x × (f x ≡ Ok y)
  each_from [] ys h y c = absurd (contains_none y (subst (λ l. Contains l y) (sym (ok_same [] ys h)) c))
  each_from (x ∷ xs) ys h y c =
      let a = each_made x xs ys h in
      contains_cases ((z : A) × Contains (x ∷ xs) z × (f z ≡ Ok y)) a.0 a.1 y (subst (λ l. Contains l y) (sym a.4) c)
      (λ e. (x, contains_head x xs, a.2 ∙ ap (λ z. made z) e))
      (λ d. let r = each_from xs a.1 a.3 y d in (r.0, contains_tail x xs r.0 r.1, r.2))

  -- which of them was refused
  pub each_refused : (xs : List A) (r : R) → each f xs ≡ Err r → (x : A) × Contains xs x × (f x ≡ Err r)
  each_refused [] r h = absurd (cc)
  each_refused (x ∷ xs) r h = go (λ k. each_refused xs r k) (bind_refused (λ y. and_then (λ ys. Ok (y ∷ ys)) (each f xs)) (f x) r h)
    where
      go : (each f xs ≡ Err r → (z : A) × Contains xs z × (f z ≡ Err r)) → (f x ≡ Err r) ⊎ ((y : B) × (f x ≡ Ok y) × (and_then (λ ys. Ok (y ∷ ys)) (each f xs) ≡ Err r)) → (z : A) × Contains (x ∷ xs) z × (f z ≡ Err r)
      go later (inl e) = (x, contains_head x xs, e)
      go later (inr k) = let q = later (last_refused (λ ys. k.0 ∷ ys) (each f xs) r k.2) in (q.0, contains_tail x xs q.0 q.1, q.2)

  -- where what is seen of both is the same
  module _ {X : Type 0} (g : A → X) (h : B → X) (one : (x : A) (y : B) → f x ≡ Ok y → h y ≡ g x) where
    pub each_same : (xs : List A) (ys : List B) → each f xs ≡ Ok ys → map h ys ≡ map g xs
    each_same [] ys e = ap (map h) (sym (ok_same [] ys e))
    each_same (x ∷ xs) ys e =
        let a = each_made x xs ys e in
        ap (map h) (sym a.4) ∙ (λ i. one x a.0 a.2 i ∷ each_same xs a.1 a.3 i)

  module _ {X : Type 0} (g : A → List X) (h : B → List X) (one : (x : A) (y : B) → f x ≡ Ok y → h y ≡ g x) where
    pub each_alike : (xs : List A) (ys : List B) → each f xs ≡ Ok ys → flat_map h ys ≡ flat_map g xs
    each_alike [] ys e = ap (flat_map h) (sym (ok_same [] ys e))
    each_alike (x ∷ xs) ys e =
        let a = each_made x xs ys e in
        ap (flat_map h) (sym a.4) ∙ (λ i. one x a.0 a.2 i ++ each_alike xs a.1 a.3 i)

  -- list after list
  abbrev pub flat : List (List B) → List B
  flat yss = flat_map (λ ys. ys) yss

  each_append : (xs ys : List A) → each f (xs ++ ys) ≡ and_then (λ us. and_then (λ vs. Ok (us ++ vs)) (each f ys)) (each f xs)
  each_append [] ys = go (each f ys)
    where
      go : (o : Result (List B) R) → o ≡ and_then (λ vs. Ok vs) o
      go (Ok vs) = refl
      go (Err r) = refl
  each_append (x ∷ xs) ys = ap (λ o. and_then (λ y. and_then (λ zs. Ok (y ∷ zs)) o) (f x)) (each_append xs ys) ∙ go (f x) (each f xs) (each f ys)
    where
      go : (o : Result B R) (p q : Result (List B) R) → and_then (λ y. and_then (λ zs. Ok (y ∷ zs)) (and_then (λ us. and_then (λ vs. Ok (us ++ vs)) q) p)) o ≡ and_then (λ us. and_then (λ vs. Ok (us ++ vs)) q) (and_then (λ y. and_then (λ zs. Ok (y ∷ zs)) p) o)
      go (Ok y) (Ok us) (Ok vs) = refl
      go (Ok y) (Ok us) (Err r) = refl
      go (Ok y) (Err r) q = refl
      go (Err r) p q = refl

  pub each_flat : {E : Type 0} (g : E → List A) (es : List E) → each f (flat_map g es) ≡ and_then (λ yss. Ok (flat yss)) (each (each f) (map g es))
  each_flat g [] = refl
  each_flat g (e ∷ es) = each_append (g e) (flat_map g es) ∙ ap (λ o. and_then (λ us. and_then (λ vs. Ok (us ++ vs)) o) (each f (g e))) (each_flat g es) ∙ go (each f (g e)) (each (each f) (map g es))
    where
      go : (o : Result (List B) R) (q : Result (List (List B)) R) → and_then (λ us. and_then (λ vs. Ok (us ++ vs)) (and_then (λ yss. Ok (flat yss)) q)) o ≡ and_then (λ yss. Ok (flat yss)) (and_then (λ y. and_then (λ ys. Ok (y ∷ ys)) q) o)
      go (Ok us) (Ok yss) = refl
      go (Ok us) (Err r) = refl
      go (Err r) q = refl

-- the parts of what is seen of several
pub map_flat : {A B C : Type 0} (f : B → C) (g : A → List B) (xs : List A) → map f (flat_map g xs) ≡ flat_map (λ x. map f (g x)) xs
map_flat f g [] = refl
map_flat {B = B} f g (x ∷ xs) = go (g x) ∙ ap (λ l. map f (g x) ++ l) (map_flat f g xs)
  where
    go : (ys : List B) → map f (ys ++ flat_map g xs) ≡ map f ys ++ map f (flat_map g xs)
    go [] = refl
    go (y ∷ ys) = ap (λ l. f y ∷ l) (go ys)

-- a list of lists that each are seen
pub flat_seen : {A B : Type 0} (g : A → List B) (xs : List A) → flat_map (λ ys. ys) (map g xs) ≡ flat_map g xs
flat_seen g xs = flat_map-map (λ ys. ys) g xs
