-- What is found under an id in a group.
use Rattle.std.proofs.Common.{◌≡◌, Bool, true, false, cond, List, [], ◌∷◌, ◌++◌, map, Option, Some, None, option_map, find, Result, Ok, Err, IfOk, refl, sym, ap, ◌∙◌}
use Rattle.std.proofs.lemmas.List.Folds.{find-append}
use Rattle.std.specs.Option.{option_or}
use Rattle.std.specs.Map.{lookup, lookup_key}
use Rattle.std.specs.Str.{bytes_eq}
use Rattle.cedar_expr_model.specs.Name.{Text}

-- entries, each seen as something that stands under the entry's text
module _ {K V M : Type 0} (text : K → Text) (name : M → Text) (seen : K × V → M) (named : (e : K × V) → name (seen e) ≡ text e.0) (t : Text) where
  abbrev test : K → Bool
  test k = bytes_eq t (text k)

  found_case : (e : K × V) (b : Bool) → test e.0 ≡ b → (k : Option K) (v : Option V) (o : Option M) → ((i : K) (x : V) → k ≡ Some i → v ≡ Some x → o ≡ Some (seen (i, x))) → (i : K) (x : V) → cond b (Some e.0) k ≡ Some i → cond b (Some e.1) v ≡ Some x → cond (bytes_eq t (name (seen e))) (Some (seen e)) o ≡ Some (seen (i, x))
  found_case e true s k v o rest i x h g = ap (λ b. cond b (Some (seen e)) o) (ap (bytes_eq t) (named e) ∙ s) ∙ (λ j. Some (seen (first e.0 i h j, first e.1 x g j)))
    where
      first : {A : Type 0} (a b : A) → Some a ≡ Some b → a ≡ b
      first a b q = cc
  found_case e false s k v o rest i x h g = ap (λ b. cond b (Some (seen e)) o) (ap (bytes_eq t) (named e) ∙ s) ∙ rest i x h g

  -- the key and the value that stand there make what is found
  pub found : (es : List (K × V)) (i : K) (x : V) → lookup_key test es ≡ Some i → lookup test es ≡ Some x → find (λ m. bytes_eq t (name m)) (map seen es) ≡ Some (seen (i, x))
  found [] i x h g = cc
  found (e ∷ es) i x h g = found_case e (test e.0) refl (lookup_key test es) (lookup test es) (find (λ m. bytes_eq t (name m)) (map seen es)) (found es) i x h g

  none_case : (e : K × V) (b : Bool) → test e.0 ≡ b → (v : Option V) (o : Option M) → (v ≡ None → o ≡ None) → cond b (Some e.1) v ≡ None → cond (bytes_eq t (name (seen e))) (Some (seen e)) o ≡ None
  none_case e true s v o rest g = cc
  none_case e false s v o rest g = ap (λ b. cond b (Some (seen e)) o) (ap (bytes_eq t) (named e) ∙ s) ∙ rest g

  -- where none stands, nothing is found
  pub not_found : (es : List (K × V)) → lookup test es ≡ None → find (λ m. bytes_eq t (name m)) (map seen es) ≡ None
  not_found [] g = refl
  not_found (e ∷ es) g = none_case e (test e.0) refl (lookup test es) (find (λ m. bytes_eq t (name m)) (map seen es)) (not_found es) g

-- what is found among some, and then among others
module _ {M : Type 0} (p : M → Bool) where
  pub in_first : (m : M) (xs ys : List M) → Some m ≡ find p xs → Some m ≡ find p (xs ++ ys)
  in_first m xs ys h = ap (λ o. option_or o (find p ys)) h ∙ sym (find-append p xs ys)

  pub in_next : (o : Option M) (xs ys : List M) → None ≡ find p xs → o ≡ find p ys → o ≡ find p (xs ++ ys)
  in_next o xs ys h k = k ∙ ap (λ q. option_or q (find p ys)) h ∙ sym (find-append p xs ys)

  pub asked_next : {A E : Type 0} (f : A → M) (r : Result (Option A) E) (xs ys : List M) → None ≡ find p xs → IfOk r (λ o. option_map f o ≡ find p ys) → IfOk r (λ o. option_map f o ≡ find p (xs ++ ys))
  asked_next f (Ok o) xs ys h k = in_next (option_map f o) xs ys h k
  asked_next f (Err e) xs ys h k = tt
