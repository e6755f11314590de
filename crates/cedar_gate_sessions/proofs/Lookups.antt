-- Look-ups in lists of pairs.
use Rattle.std.proofs.Common.{◌≡◌, Bool, true, false, cond, List, [], ◌∷◌, ◌++◌, map, Contains, Some, option_map, refl, ⊎_elim}
use Rattle.std.specs.Option.{option_or}
use Rattle.std.specs.Map.{lookup}
use Rattle.cedar_expr_model.specs.ListLaws.{AreDistinct}
use Rattle.std.proofs.lemmas.List.Elements.{Contains-append_cases}
use Rattle.cedar_expr_model.proofs.Lists.{contains_head, contains_tail}

module _ {K X : Type 0} (test : K → Bool) where
  -- the entries of values that are seen in another way
  pub lookup_seen : {A Y : Type 0} (f : A → K) (h : A → X) (g : X → Y) (es : List A) → lookup test (map (λ e. (f e, g (h e))) es) ≡ option_map g (lookup test (map (λ e. (f e, h e)) es))
  lookup_seen f h g [] = refl
  lookup_seen {A} {Y} f h g (e ∷ es) = go (test (f e)) (lookup_seen f h g es)
    where
      go : (b : Bool) → lookup test (map (λ e. (f e, g (h e))) es) ≡ option_map g (lookup test (map (λ e. (f e, h e)) es)) → cond b (Some (g (h e))) (lookup test (map (λ e. (f e, g (h e))) es)) ≡ option_map g (cond b (Some (h e)) (lookup test (map (λ e. (f e, h e)) es)))
      go true k = refl
      go false k = k

  -- one row behind the other
  pub lookup_both : (xs ys : List (K × X)) → lookup test (xs ++ ys) ≡ option_or (lookup test xs) (lookup test ys)
  lookup_both [] ys = refl
  lookup_both (p ∷ xs) ys = go (test p.0) (lookup_both xs ys)
    where
      go : (b : Bool) → lookup test (xs ++ ys) ≡ option_or (lookup test xs) (lookup test ys) → cond b (Some p.1) (lookup test (xs ++ ys)) ≡ option_or (cond b (Some p.1) (lookup test xs)) (lookup test ys)
      go true k = refl
      go false k = k

-- rows without a common member
pub distinct_both : {A : Type 0} (xs ys : List A) → AreDistinct xs → AreDistinct ys → ((x : A) → Contains xs x → Contains ys x → ⊥) → AreDistinct (xs ++ ys)
distinct_both [] ys d e h = e
distinct_both (x ∷ xs) ys d e h = (λ k. ⊎_elim d.0 (h x (contains_head x xs)) (Contains-append_cases xs ys x k), distinct_both xs ys d.1 e (λ y k l. h y (contains_tail x xs y k) l))
