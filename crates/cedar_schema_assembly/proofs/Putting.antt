-- Parts put into a set one after the other.
use Rattle.std.proofs.Common.{◌≡◌, ◌<◌, ◌+◌, ℕ, Bool, true, false, ◌||◌, not, List, [], ◌∷◌, ◌++◌, map, take, length, get_or, drop, zero, suc, arith, refl, sym, ap, ◌∙◌, subst, inl, inr, ⊎_elim}
use Rattle.std.specs.Prelude.{Contains}
use Rattle.std.specs.Bool.{Decides}
use Rattle.std.specs.BTreeMap.{is_at}
use Rattle.std.specs.BTreeSet.{insert_key}
use Rattle.std.specs.List.{list_any}
use Rattle.std.specs.declared.cmp.Ordering.{Ordering}
use Rattle.std.proofs.lemmas.Bool.{true≢false}
use Rattle.std.proofs.lemmas.List.{take_more, map-append}
use Rattle.std.proofs.lemmas.List.Elements.{Contains-append_left, Contains-push, Contains-push_cases}
use Rattle.cedar_expr_model.proofs.Lists.{contains_head, contains_tail, contains_cases, contains_none}
use Rattle.cedar_schema_assembly.specs.Lists.{IsSetOf, StandOnce}
use Rattle.cedar_schema_resolver.specs.Numbers.{StandsTwice}
use Rattle.cedar_schema_resolver.proofs.Gathering.{put_kept, put_has, put_only}
use Rattle.cedar_schema_resolver.proofs.Places.{once_more}

module _ {N S : Type 0} (seen : N → S) (cmp : N → N → Ordering) (told : (a b : N) → Decides (is_at (cmp a) b) (seen a ≡ seen b)) where
  -- one more of them
  pub set_more : (xs : List S) (ks ls : List N) (k : N) (x : S) → seen k ≡ x → ls ≡ insert_key cmp ks k → IsSetOf xs (map seen ks) → IsSetOf (xs ++ x ∷ []) (map seen ls)
  set_more xs ks ls k x q e is = record {
    only = λ s c.
        ⊎_elim
        (λ m. Contains-append_left xs (x ∷ []) s (is.only s m))
        (λ p. subst (Contains (xs ++ x ∷ [])) (sym q ∙ p) (Contains-push xs x))
        (put_only seen cmp told ks k s (subst (λ ns. Contains (map seen ns) s) e c));
    all = λ s c.
        subst (λ ns. Contains (map seen ns) s) (sym e)
        (⊎_elim (λ m. put_kept seen cmp told ks k s (is.all s m)) (λ p. subst (Contains (map seen (insert_key cmp ks k))) (q ∙ p) (put_has seen cmp told ks k)) (Contains-push_cases xs x s c));
  }

  -- one more of them, before the others
  pub set_first : (xs : List S) (ks ls : List N) (k : N) (x : S) → seen k ≡ x → ls ≡ insert_key cmp ks k → IsSetOf xs (map seen ks) → IsSetOf (x ∷ xs) (map seen ls)
  set_first xs ks ls k x q e is = record {
    only = λ s c.
        ⊎_elim
        (λ m. contains_tail x xs s (is.only s m))
        (λ p. subst (Contains (x ∷ xs)) (sym q ∙ p) (contains_head x xs))
        (put_only seen cmp told ks k s (subst (λ ns. Contains (map seen ns) s) e c));
    all = λ s c.
        subst (λ ns. Contains (map seen ns) s) (sym e)
        (contains_cases (Contains (map seen (insert_key cmp ks k)) s) x xs s c
        (λ p. subst (Contains (map seen (insert_key cmp ks k))) (q ∙ p) (put_has seen cmp told ks k))
        (λ m. put_kept seen cmp told ks k s (is.all s m)));
  }

  -- what is found in the set is there
  pub found_there : (k : N) (ks : List N) → Decides (list_any (is_at (cmp k)) ks) (Contains (map seen ks) (seen k))
  found_there k [] = (λ h. absurd (true≢false (sym h)), λ c. absurd (contains_none (seen k) c))
  found_there k (x ∷ xs) = go (is_at (cmp k) x) (told k x) (found_there k xs)
    where
      go : (b : Bool) → Decides b (seen k ≡ seen x) → Decides (list_any (is_at (cmp k)) xs) (Contains (map seen xs) (seen k)) → Decides (b || list_any (is_at (cmp k)) xs) (Contains (map seen (x ∷ xs)) (seen k))
      go true d rest = (λ h. subst (Contains (map seen (x ∷ xs))) (sym (d.0 refl)) (contains_head (seen x) (map seen xs)), λ c. refl)
      go false d rest = (λ h. contains_tail (seen x) (map seen xs) (seen k) (rest.0 h), λ c. contains_cases (list_any (is_at (cmp k)) xs ≡ true) (seen x) (map seen xs) (seen k) c (λ e. absurd (true≢false (sym (d.1 (sym e))))) (λ m. rest.1 m))

pub nothing_yet : {N S : Type 0} (seen : N → S) (ks : List N) → ks ≡ [] → IsSetOf [] (map seen ks)
nothing_yet seen ks e = subst (λ ls. IsSetOf [] (map seen ls)) (sym e) (record { only = λ s c. c; all = λ s c. c })

-- the next of them
pub next_of : {A S : Type 0} (f : A → S) (xs : List A) (i : ℕ) (x : A) → i < length xs → x ≡ get_or xs i x → map f (take (i + 1) xs) ≡ map f (take i xs) ++ f x ∷ []
next_of f xs i x l is = ap (map f) (take_more xs i x l) ∙ map-append f (take i xs) (get_or xs i x ∷ []) ∙ ap (λ y. map f (take i xs) ++ f y ∷ []) (sym is)

-- one that stood before
pub twice_on : {S : Type 0} (xs ys : List S) (s : S) → Contains xs s → StandsTwice (xs ++ s ∷ ys) s
twice_on [] ys s c = absurd (contains_none s c)
twice_on (x ∷ xs) ys s c = contains_cases (StandsTwice (x ∷ xs ++ s ∷ ys) s) x xs s c (λ e. inl (e, there xs)) (λ m. inr (twice_on xs ys s m))
  where
    there : (zs : List _) → Contains (zs ++ s ∷ ys) s
    there [] = contains_head s ys
    there (z ∷ zs) = contains_tail z (zs ++ s ∷ ys) s (there zs)

pub stand_none : {S : Type 0} → StandOnce {S = S} []
stand_none = record { none = λ t. t }

pub stand_more : {S : Type 0} (xs : List S) (s : S) → StandOnce xs → (Contains xs s → ⊥) → StandOnce (xs ++ s ∷ [])
stand_more xs s o n = record { none = λ t. once_more xs s o.none n t }

-- a name that was met stands twice, and one that wasn't stands once more
pub twice_at : {A S : Type 0} (f : A → S) (xs : List A) (i : ℕ) (x : A) → i < length xs → x ≡ get_or xs i x → Contains (map f (take i xs)) (f x) → StandsTwice (map f xs) (f x)
twice_at f xs i x l is c = subst (λ ys. StandsTwice ys (f x)) (sym (parted f xs i x l is)) (twice_on (map f (take i xs)) (map f (drop (suc i) xs)) (f x) c)
  where
    parted : {A S : Type 0} (f : A → S) (xs : List A) (i : ℕ) (x : A) → i < length xs → x ≡ get_or xs i x → map f xs ≡ map f (take i xs) ++ f x ∷ map f (drop (suc i) xs)
    parted f [] i x l is = absurd (omega (arith, l))
    parted f (y ∷ ys) zero x l is = ap (λ z. f z ∷ map f ys) (sym is)
    parted f (y ∷ ys) (suc i) x l is = ap (λ zs. f y ∷ zs) (parted f ys i x (omega (arith, l)) is)

-- what a test that was turned round tells
pub was_there : (x b : Bool) → x ≡ not b → x ≡ false → b ≡ true
was_there x true e f = refl
was_there x false e f = absurd (true≢false (sym e ∙ f))

pub was_new : (x b : Bool) → x ≡ not b → x ≡ true → b ≡ true → ⊥
was_new x true e f h = true≢false (sym f ∙ e)
was_new x false e f h = true≢false (sym h)
