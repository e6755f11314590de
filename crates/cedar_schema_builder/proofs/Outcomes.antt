-- What an outcome tells: of a refusal that its fault is there, and else that neither a reference nor a parent lacks its meaning.
use Rattle.std.proofs.Common.{◌≡◌, Bool, true, false, ◌||◌, List, [], ◌∷◌, ◌++◌, map, Result, Ok, Err, refl, sym, ap, ◌∙◌, subst}
use Rattle.std.specs.List.{flat_map, list_any}
use Rattle.cedar_expr_model.specs.Name.{Name}
use Rattle.cedar_schema_decl.specs.Conditional.{Conditional}
use Rattle.cedar_schema_decl.specs.Laws.{is_refused}
use Rattle.cedar_schema_decl.specs.Requalified.{and_then, each}
use Rattle.cedar_schema_fragments.specs.Refusals.{Refusal, no_type, no_action, reserved_type}
use Rattle.cedar_schema_fragments.specs.Resolved.{of_types}

-- names that are reserved where none may be
module _ (IsWrong : Name → Type 0) where
  abbrev pub Tells : Refusal → Bool → Bool → Type 0
  Tells (no_type c) t u = t ≡ true
  Tells (no_action p) t u = u ≡ true
  Tells (reserved_type n) t u = IsWrong n

  abbrev pub Told : {A : Type 0} → Result A Refusal → Bool → Bool → Type 0
  Told (Ok x) t u = (t ≡ false) × (u ≡ false)
  Told (Err r) t u = Tells r t u

  -- one part after the other, and the last one
  pub told_bind : {A B : Type 0} (o : Result A Refusal) (f : A → Result B Refusal) (t u v w : Bool) → Told o t u → ((x : A) → Told (f x) v w) → Told (and_then f o) (t || v) (u || w)
  told_bind (Ok x) f t u v w h k = subst (λ b. Told (f x) b (u || w)) (ap (λ b. b || v) (sym h.0)) (subst (Told (f x) v) (ap (λ b. b || w) (sym h.1)) (k x))
  told_bind (Err (no_type c)) f t u v w h k = ap (λ b. b || v) h
  told_bind (Err (no_action p)) f t u v w h k = ap (λ b. b || w) h
  told_bind (Err (reserved_type n)) f t u v w h k = h

  pub told_last : {A B : Type 0} (o : Result A Refusal) (f : A → B) (t u : Bool) → Told o t u → Told (and_then (λ x. Ok (f x)) o) t u
  told_last (Ok x) f t u h = h
  told_last (Err r) f t u h = h

  pub told_types : {A : Type 0} (o : Result A Conditional) (b : Bool) → is_refused o ≡ b → Told (of_types o) b false
  told_types (Ok x) b h = (sym h, refl)
  told_types (Err c) b h = sym h

  -- of each of those that are made
  pub told_each : {A B C : Type 0} (f : B → Result C Refusal) (g : A → B) (t u : A → Bool) → ((x : A) → Told (f (g x)) (t x) (u x)) → (xs : List A) → Told (each f (map g xs)) (list_any t xs) (list_any u xs)
  told_each f g t u h [] = (refl, refl)
  told_each f g t u h (x ∷ xs) =
      told_bind (f (g x)) (λ y. and_then (λ ys. Ok (y ∷ ys)) (each f (map g xs))) (t x) (u x) (list_any t xs) (list_any u xs) (h x)
      (λ y. told_last (each f (map g xs)) (λ ys. y ∷ ys) (list_any t xs) (list_any u xs) (told_each f g t u h xs))

-- list after list
abbrev pub flat : {A : Type 0} → List (List A) → List A
flat yss = flat_map (λ ys. ys) yss

module _ {A B R : Type 0} (f : A → Result B R) where
  each_append : (xs ys : List A) → each f (xs ++ ys) ≡ and_then (λ us. and_then (λ vs. Ok (us ++ vs)) (each f ys)) (each f xs)
  each_append [] ys = go (each f ys)
    where
      go : (o : Result (List B) R) → o ≡ and_then (λ vs. Ok vs) o
      go (Ok vs) = refl
      go (Err r) = refl
  each_append (x ∷ xs) ys = ap (λ o. and_then (λ y. and_then (λ zs. Ok (y ∷ zs)) o) (f x)) (each_append xs ys) ∙ go (f x) (each f xs) (each f ys)
    where
      go : (o : Result B R) (p q : Result (List B) R) → and_then (λ y. and_then (λ zs. Ok (y ∷ zs)) (and_then (λ us. and_then (λ vs. Ok (us ++ vs)) q) p)) o ≡ and_then (λ us. and_then (λ vs. Ok (us ++ vs)) q) (and_then (λ y. and_then (λ zs. Ok (y ∷ zs)) p) o)
      go (Ok y) (Ok us) (Ok vs) = refl
      go (Ok y) (Ok us) (Err r) = refl
      go (Ok y) (Err r) q = refl
      go (Err r) p q = refl

  pub each_flat : {E : Type 0} (g : E → List A) (es : List E) → each f (flat_map g es) ≡ and_then (λ yss. Ok (flat yss)) (each (each f) (map g es))
  each_flat g [] = refl
  each_flat g (e ∷ es) = each_append (g e) (flat_map g es) ∙ ap (λ o. and_then (λ us. and_then (λ vs. Ok (us ++ vs)) o) (each f (g e))) (each_flat g es) ∙ go (each f (g e)) (each (each f) (map g es))
    where
      go : (o : Result (List B) R) (q : Result (List (List B)) R) → and_then (λ us. and_then (λ vs. Ok (us ++ vs)) (and_then (λ yss. Ok (flat yss)) q)) o ≡ and_then (λ yss. Ok (flat yss)) (and_then (λ y. and_then (λ ys. Ok (y ∷ ys)) q) o)
      go (Ok us) (Ok yss) = refl
      go (Ok us) (Err r) = refl
      go (Err r) q = refl
