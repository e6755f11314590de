-- What is put under its own name among the entries of a map, and what is found there.
use Rattle.std.proofs.Common.{◌≡◌, Bool, true, false, cond, List, [], ◌∷◌, ◌++◌, map, Option, Some, None, option_map, refl, sym, ap, ◌∙◌}
use Rattle.std.specs.Borrow.{Bor}
use Rattle.std.specs.BTreeMap.{is_at, insert_entry}
use Rattle.std.specs.List.{find}
use Rattle.std.specs.Map.{lookup, keys_of, values_of}
use Rattle.std.specs.Option.{option_copied}
use Rattle.std.specs.Ordering.{is_eq, match_ordering}
use Rattle.std.specs.declared.cmp.Ordering.{Ordering}
use Rattle.std.specs.declared.cmp.Ordering.TheVariants.{Less, Equal, Greater}
use Rattle.cedar_schema_built.specs.Put.{put, all_put}

-- one more from the back
pub all_put_more : {S A : Type 0} (by : S → S → Ordering) (name : A → S) (bs as_ : List A) (a : A) → all_put by name bs (as_ ++ a ∷ []) ≡ put by name a (all_put by name bs as_)
all_put_more by name bs [] a = refl
all_put_more by name bs (b ∷ as_) a = all_put_more by name (put by name b bs) as_ a

pub map_more : {A B : Type 0} (f : A → B) (xs : List A) (x : A) → map f (xs ++ x ∷ []) ≡ (map f xs ++ f x ∷ [])
map_more f [] x = refl
map_more f (y ∷ xs) x = ap (λ ys. f y ∷ ys) (map_more f xs x)

-- the values, and the keys, of entries
pub of_values : {K V A : Type 0} (seen : V → A) (es : List (K × V)) → map seen (values_of es) ≡ map (λ e. seen e.1) es
of_values seen [] = refl
of_values seen (e ∷ es) = ap (λ xs. seen e.1 ∷ xs) (of_values seen es)

pub of_keys : {K V S : Type 0} (key : K → S) (es : List (K × V)) → map key (keys_of es) ≡ map (λ e. key e.0) es
of_keys key [] = refl
of_keys key (e ∷ es) = ap (λ xs. key e.0 ∷ xs) (of_keys key es)

pub of_names : {K V A S : Type 0} (seen : V → A) (name : A → S) (es : List (K × V)) → map (λ e. name (seen e.1)) es ≡ map name (map (λ e. seen e.1) es)
of_names seen name [] = refl
of_names seen name (e ∷ es) = ap (λ xs. name (seen e.1) ∷ xs) (of_names seen name es)

module _ {K V S A : Type 0} (key : K → S) (seen : V → A) (name : A → S) (cmp : K → K → Ordering) where
  abbrev pub kept_in : List (K × V) → List A
  kept_in es = map (λ e. seen e.1) es

  abbrev pub keys_in : List (K × V) → List S
  keys_in es = map (λ e. key e.0) es

  abbrev pub names_in : List (K × V) → List S
  names_in es = map (λ e. name (seen e.1)) es

  module _ (by : S → S → Ordering) (same : (k l : K) → cmp k l ≡ by (key k) (key l)) where
    put_step : (k : K) (v : V) (e : K × V) (es news : List (K × V)) (bs : List A) (o : Ordering) → kept_in news ≡ bs
        → kept_in (match_ordering o ((k, v) ∷ e ∷ es) ((e.0, v) ∷ es) (e ∷ news)) ≡ match_ordering o (seen v ∷ seen e.1 ∷ kept_in es) (seen v ∷ kept_in es) (seen e.1 ∷ bs)
    put_step k v e es news bs Less h = refl
    put_step k v e es news bs Equal h = refl
    put_step k v e es news bs Greater h = ap (λ xs. seen e.1 ∷ xs) h

    pub put_in : (es : List (K × V)) (k : K) (v : V) → key k ≡ name (seen v) → keys_in es ≡ names_in es → kept_in (insert_entry cmp es k v) ≡ put by name (seen v) (kept_in es)
    put_in [] k v h n = refl
    put_in (e ∷ es) k v h n =
        let first : key e.0 ≡ name (seen e.1) = cc in
        put_step k v e es (insert_entry cmp es k v) (put by name (seen v) (kept_in es)) (cmp k e.0) (put_in es k v h (cc))
        ∙ ap (λ o. match_ordering o (seen v ∷ seen e.1 ∷ kept_in es) (seen v ∷ kept_in es) (seen e.1 ∷ put by name (seen v) (kept_in es))) (same k e.0 ∙ (λ i. by (h i) (first i)))

  module _ (eq : S → S → Bool) (told : (k l : K) → is_eq (cmp k l) ≡ eq (key k) (key l)) where
    module _ (decides : (s t : S) → eq s t ≡ true → s ≡ t) where
      named_step : (k : K) (v : V) (e : K × V) (es news : List (K × V)) (o : Ordering) → cmp k e.0 ≡ o → key k ≡ name (seen v) → key e.0 ≡ name (seen e.1) → keys_in es ≡ names_in es → keys_in news ≡ names_in news
          → keys_in (match_ordering o ((k, v) ∷ e ∷ es) ((e.0, v) ∷ es) (e ∷ news)) ≡ names_in (match_ordering o ((k, v) ∷ e ∷ es) ((e.0, v) ∷ es) (e ∷ news))
      named_step k v e es news Less c h first n m = λ i. h i ∷ first i ∷ n i
      named_step k v e es news Equal c h first n m = λ i. (sym (decides (key k) (key e.0) (sym (told k e.0) ∙ ap is_eq c)) ∙ h) i ∷ n i
      named_step k v e es news Greater c h first n m = λ i. first i ∷ m i

      pub named_put : (es : List (K × V)) (k : K) (v : V) → key k ≡ name (seen v) → keys_in es ≡ names_in es → keys_in (insert_entry cmp es k v) ≡ names_in (insert_entry cmp es k v)
      named_put [] k v h n = λ i. h i ∷ []
      named_put (e ∷ es) k v h n =
          let first : key e.0 ≡ name (seen e.1) = cc in
          let rest : keys_in es ≡ names_in es = cc in
          named_step k v e es (insert_entry cmp es k v) (cmp k e.0) refl h first rest (named_put es k v h rest)

    chosen : (s t : Bool) → s ≡ t → (v : V) (o : Option V) (p : Option A) → option_map seen o ≡ p → option_map seen (cond s (Some v) o) ≡ cond t (Some (seen v)) p
    chosen s true e v o p h = ap (λ b. option_map seen (cond b (Some v) o)) e
    chosen s false e v o p h = ap (λ b. option_map seen (cond b (Some v) o)) e ∙ h

    found_in : (q : K) (es : List (K × V)) → keys_in es ≡ names_in es → option_map seen (lookup (is_at (cmp q)) es) ≡ find (λ a. eq (key q) (name a)) (kept_in es)
    found_in q [] n = refl
    found_in q (e ∷ es) n =
        let first : key e.0 ≡ name (seen e.1) = cc in
        chosen (is_eq (cmp q e.0)) (eq (key q) (name (seen e.1))) (told q e.0 ∙ ap (eq (key q)) first) e.1 (lookup (is_at (cmp q)) es) (find (λ a. eq (key q) (name a)) (kept_in es)) (found_in q es (cc))

    copied : (r : Option (Bor V)) → option_map (λ v. seen v.now) r ≡ option_map seen (option_copied r)
    copied None = refl
    copied (Some v) = refl

    pub got_in : (q : K) (es : List (K × V)) (r : Option (Bor V)) → keys_in es ≡ names_in es → option_copied r ≡ lookup (is_at (cmp q)) es → option_map (λ v. seen v.now) r ≡ find (λ a. eq (key q) (name a)) (kept_in es)
    got_in q es r n h = copied r ∙ ap (option_map seen) h ∙ found_in q es n
