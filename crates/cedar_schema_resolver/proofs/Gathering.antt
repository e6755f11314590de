-- Names put into a set.
use Rattle.std.proofs.Common.{◌≡◌, ◌⊎◌, List, [], ◌∷◌, ◌++◌, map, ℕ, refl, sym, ap, ◌∙◌, subst, inl, inr, ⊎_elim}
use Rattle.std.specs.Prelude.{Contains}
use Rattle.std.specs.Bool.{Decides}
use Rattle.std.specs.BTreeMap.{is_at}
use Rattle.std.specs.BTreeSet.{insert_key}
use Rattle.std.specs.Ordering.{match_ordering, is_eq}
use Rattle.std.specs.declared.cmp.Ordering.{Ordering}
use Rattle.std.specs.declared.cmp.Ordering.TheVariants.{Less, Equal, Greater}
use Rattle.std.proofs.lemmas.List.Elements.{Contains-append_left, Contains-push}
use Rattle.cedar_expr_model.proofs.Lists.{contains_head, contains_tail, contains_cases, contains_none}
use Rattle.cedar_schema_resolver.specs.Numbers.{IsAt, AreNamesAt}
use Rattle.cedar_schema_resolver.proofs.Places.{at_one}

module _ {N S : Type 0} (seen : N → S) (cmp : N → N → Ordering) (told : (a b : N) → Decides (is_at (cmp a) b) (seen a ≡ seen b)) where
  pub put_kept : (ks : List N) (k : N) (s : S) → Contains (map seen ks) s → Contains (map seen (insert_key cmp ks k)) s
  put_kept [] k s h = absurd (contains_none s h)
  put_kept (x ∷ xs) k s h = go (put_kept xs k s) (cmp k x)
    where
      go : (Contains (map seen xs) s → Contains (map seen (insert_key cmp xs k)) s) → (o : Ordering) → Contains (map seen (match_ordering o (k ∷ x ∷ xs) (x ∷ xs) (x ∷ insert_key cmp xs k))) s
      go rest Less = contains_tail (seen k) (map seen (x ∷ xs)) s h
      go rest Equal = h
      go rest Greater =
          contains_cases (Contains (map seen (x ∷ insert_key cmp xs k)) s) (seen x) (map seen xs) s h
          (λ e. subst (λ y. Contains (seen x ∷ map seen (insert_key cmp xs k)) y) e (contains_head (seen x) (map seen (insert_key cmp xs k))))
          (λ c. contains_tail (seen x) (map seen (insert_key cmp xs k)) s (rest c))

  pub put_has : (ks : List N) (k : N) → Contains (map seen (insert_key cmp ks k)) (seen k)
  put_has [] k = contains_head (seen k) []
  put_has (x ∷ xs) k = go (put_has xs k) (cmp k x) refl
    where
      go : Contains (map seen (insert_key cmp xs k)) (seen k) → (o : Ordering) → cmp k x ≡ o → Contains (map seen (match_ordering o (k ∷ x ∷ xs) (x ∷ xs) (x ∷ insert_key cmp xs k))) (seen k)
      go rest Less e = contains_head (seen k) (map seen (x ∷ xs))
      go rest Equal e = subst (Contains (map seen (x ∷ xs))) (sym ((told k x).0 (ap is_eq e))) (contains_head (seen x) (map seen xs))
      go rest Greater e = contains_tail (seen x) (map seen (insert_key cmp xs k)) (seen k) rest

  pub put_only : (ks : List N) (k : N) (s : S) → Contains (map seen (insert_key cmp ks k)) s → Contains (map seen ks) s ⊎ (seen k ≡ s)
  put_only [] k s = λ h. contains_cases (Contains (map seen []) s ⊎ (seen k ≡ s)) (seen k) [] s h inr (λ c. inl c)
  put_only (x ∷ xs) k s = go (put_only xs k s) (cmp k x)
    where
      go : (Contains (map seen (insert_key cmp xs k)) s → Contains (map seen xs) s ⊎ (seen k ≡ s)) → (o : Ordering) → Contains (map seen (match_ordering o (k ∷ x ∷ xs) (x ∷ xs) (x ∷ insert_key cmp xs k))) s → Contains (map seen (x ∷ xs)) s ⊎ (seen k ≡ s)
      go rest Less h = contains_cases (Contains (map seen (x ∷ xs)) s ⊎ (seen k ≡ s)) (seen k) (map seen (x ∷ xs)) s h inr inl
      go rest Equal h = inl h
      go rest Greater h =
          contains_cases (Contains (map seen (x ∷ xs)) s ⊎ (seen k ≡ s)) (seen x) (map seen (insert_key cmp xs k)) s h
          (λ e. inl (subst (Contains (map seen (x ∷ xs))) e (contains_head (seen x) (map seen xs))))
          (λ c. ⊎_elim (λ m. inl (contains_tail (seen x) (map seen xs) s m)) inr (rest c))

  -- one more of them, before the others
  pub one_name : (names : List S) (is : List ℕ) (ks ls : List N) (i : ℕ) (k : N) → IsAt names i (seen k) → ls ≡ insert_key cmp ks k → AreNamesAt names is (map seen ks) → AreNamesAt names (i ∷ is) (map seen ls)
  one_name names is ks ls i k h e a = record {
    only = λ s c.
        ⊎_elim
        (λ m. let r = a.only s m in (r.0, contains_tail i is r.0 r.1, r.2))
        (λ q. (i, contains_head i is, subst (IsAt names i) q h))
        (put_only ks k s (subst (λ ns. Contains (map seen ns) s) e c));
    all = λ s j c m.
        subst (λ ns. Contains (map seen ns) s) (sym e)
        (contains_cases (Contains (map seen (insert_key cmp ks k)) s) i is j c
        (λ q. subst (Contains (map seen (insert_key cmp ks k))) (at_one names i (seen k) s h (subst (λ n. IsAt names n s) (sym q) m)) (put_has ks k))
        (λ d. put_kept ks k s (a.all s j d m)));
  }

pub no_names : {S : Type 0} (names : List S) → AreNamesAt names [] []
no_names names = record { only = λ s c. absurd (contains_none s c); all = λ s i c h. absurd (contains_none i c) }

-- one more is taken from the back of those that are left, and stands before those that were
pub from_back : {A : Type 0} (rest later put whole : List A) (x : A) → rest ≡ (later ++ x ∷ []) → (rest ++ put) ≡ whole → (later ++ x ∷ put) ≡ whole
from_back rest later put whole x e h = there later ∙ ap (λ xs. xs ++ put) (sym e) ∙ h
  where
    there : (xs : List _) → (xs ++ x ∷ put) ≡ ((xs ++ x ∷ []) ++ put)
    there [] = refl
    there (y ∷ ys) = ap (λ zs. y ∷ zs) (there ys)

-- and is one of the whole
pub in_whole : {A : Type 0} (rest later put whole : List A) (x : A) → rest ≡ (later ++ x ∷ []) → (rest ++ put) ≡ whole → Contains whole x
in_whole rest later put whole x e h = subst (λ xs. Contains xs x) h (Contains-append_left rest put x (subst (λ xs. Contains xs x) (sym e) (Contains-push later x)))
