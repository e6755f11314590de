-- Tests of each uid of a list, and uids that stand twice.
use Rattle.std.proofs.Common.{◌≡◌, ◌&&◌, ◌⊎◌, inl, inr, ◌+◌, ◌<◌, Bool, true, false, cond, ℕ, List, [], ◌∷◌, ◌++◌, Contains, Option, Some, None, refl, sym, ap, ◌∙◌, subst, map, take, drop, length, get_or, append_assoc}
use Rattle.std.proofs.lemmas.List.{append-nil, map-append, take_more, take-append-drop}
use Rattle.std.proofs.lemmas.List.Elements.{Contains-append_left, Contains-push, Contains-push_cases}
use Rattle.std.proofs.lemmas.List.Folds.{list_all-map, list_all_more, list_all_at}
use Rattle.std.specs.List.{list_all, list_any}
use Rattle.std.specs.Prelude.{◌↔◌, IsSome, is_some}
use Rattle.cedar_expr_model.specs.Uid.{Uid, uid_eq}
use Rattle.cedar_expr_model.specs.Repeats.{repeated, first_again}
use Rattle.cedar_expr_model.proofs.Equality.{uid_eq-Decides}
use Rattle.cedar_expr_model.proofs.Lists.{hold_both, found-Decides, contains_none, contains_head, contains_tail}
use Rattle.cedar_expr_names.specs.Views.{uid_of}
use Rattle.cedar_expr_names.specs.declared.entity.EntityUID.{EntityUID}
use Rattle.cedar_gate_wanted.specs.Supplying.{keys_in}

module _ {X Y : Type 0} (p : X → Bool) (h : Y → X) (xs : List Y) (i : ℕ) (x : Y) (l : i < length xs) (is : x ≡ get_or xs i x) where
  -- the test holds of one more
  pub all_next : list_all p (map h (take i xs)) ≡ true → p (h x) ≡ true → list_all p (map h (take (i + 1) xs)) ≡ true
  all_next was now =
      list_all-map p h (take (i + 1) xs)
      ∙ list_all_more (λ y. p (h y)) xs i x l
      ∙ hold_both _ _ (sym (list_all-map p h (take i xs)) ∙ was) (ap (λ y. p (h y)) (sym is) ∙ now)

  -- the test fails at one
  pub all_stop : p (h x) ≡ false → list_all p (map h xs) ≡ false
  all_stop fails = list_all-map p h xs ∙ list_all_at (λ y. p (h y)) xs i x l (ap (λ y. p (h y)) (sym is) ∙ fails)

again_at : {A : Type 0} (eq : A → A → Bool) (before xs rest : List A) → first_again eq before xs ≡ None → first_again eq before (xs ++ rest) ≡ first_again eq (before ++ xs) rest
again_at eq before [] rest e = ap (λ b. first_again eq b rest) (sym (append-nil before))
again_at {A} eq before (x ∷ xs) rest e = go (list_any (eq x) before) refl (λ k. again_at eq (before ++ x ∷ []) xs rest k)
  where
    go : (b : Bool) → list_any (eq x) before ≡ b
        → (first_again eq (before ++ x ∷ []) xs ≡ None → first_again eq (before ++ x ∷ []) (xs ++ rest) ≡ first_again eq ((before ++ x ∷ []) ++ xs) rest)
        → first_again eq before (x ∷ (xs ++ rest)) ≡ first_again eq (before ++ x ∷ xs) rest
    go true h next = let k : first_again eq before (x ∷ xs) ≡ Some x = ap (λ b. cond b (Some x) (first_again eq (before ++ x ∷ []) xs)) h in absurd cc
    go false h next =
        ap (λ b. cond b (Some x) (first_again eq (before ++ x ∷ []) (xs ++ rest))) h
        ∙ next (sym (ap (λ b. cond b (Some x) (first_again eq (before ++ x ∷ []) xs)) h) ∙ e)
        ∙ ap (λ b. first_again eq b rest) (append_assoc before (x ∷ []) xs)

-- one more that isn't met again
pub once_more : (ys more : List Uid) (x : Uid) → more ≡ ys ++ x ∷ [] → repeated uid_eq ys ≡ None → list_any (uid_eq x) ys ≡ false → repeated uid_eq more ≡ None
once_more ys more x e once new = ap (repeated uid_eq) e ∙ again_at uid_eq [] ys (x ∷ []) once ∙ ap (λ b. cond b (Some x) None) new

-- one that is met again
pub met_again : (ys all rest : List Uid) (x : Uid) → all ≡ ys ++ x ∷ rest → repeated uid_eq ys ≡ None → list_any (uid_eq x) ys ≡ true → is_some (repeated uid_eq all) ≡ true
met_again ys all rest x e once met = ap (λ zs. is_some (repeated uid_eq zs)) e ∙ ap is_some (again_at uid_eq [] ys (x ∷ rest) once ∙ ap (λ b. cond b (Some x) (first_again uid_eq (ys ++ x ∷ []) rest)) met)

module _ {X : Type 0} (xs : List (EntityUID × X)) (i : ℕ) (x : EntityUID × X) (l : i < length xs) (is : x ≡ get_or xs i x) where
  pub next_key : keys_in (take (i + 1) xs) ≡ keys_in (take i xs) ++ uid_of x.0 ∷ []
  next_key = ap keys_in (take_more xs i x l) ∙ map-append (λ (p : EntityUID × X). uid_of p.0) (take i xs) (get_or xs i x ∷ []) ∙ ap (λ z. keys_in (take i xs) ++ uid_of z.0 ∷ []) (sym is)

  pub all_keys : keys_in xs ≡ keys_in (take i xs) ++ uid_of x.0 ∷ keys_in (drop (i + 1) xs)
  all_keys =
      ap keys_in (sym (take-append-drop (i + 1) xs))
      ∙ map-append (λ (p : EntityUID × X). uid_of p.0) (take (i + 1) xs) (drop (i + 1) xs)
      ∙ ap (λ zs. zs ++ keys_in (drop (i + 1) xs)) next_key
      ∙ append_assoc (keys_in (take i xs)) (uid_of x.0 ∷ []) (keys_in (drop (i + 1) xs))

module _ {X : Type 0} (b : Uid → Option X) (ys : List Uid) (has : (u : Uid) → IsSome (b u) ↔ Contains ys u) where
  -- what stands at a uid tells whether it was met
  pub met_is : (u : Uid) (t : Bool) → t ≡ is_some (b u) → list_any (uid_eq u) ys ≡ t
  met_is u true e = (found-Decides uid_eq uid_eq-Decides u ys).1 ((has u).0 (sym e))
  met_is u false e = not_found (list_any (uid_eq u) ys) refl
    where
      not_found : (t : Bool) → list_any (uid_eq u) ys ≡ t → list_any (uid_eq u) ys ≡ false
      not_found true h = let k : is_some (b u) ≡ true = (has u).1 ((found-Decides uid_eq uid_eq-Decides u ys).0 h) in absurd cc
      not_found false h = h

  pub has_more : (more : List Uid) (k : Uid) (c : Uid → Option X) (w : X) → more ≡ ys ++ k ∷ [] → c k ≡ Some w → ((x : Uid) → (x ≡ k) ⊎ (c x ≡ b x)) → (u : Uid) → IsSome (c u) ↔ Contains more u
  has_more more k c w e here apart u = (
    (λ s. elim (apart u) [
      | inl this ↦ subst (λ zs. Contains zs u) (sym e) (subst (λ z. Contains (ys ++ k ∷ []) z) (sym this) (Contains-push ys k))
      | inr same ↦ subst (λ zs. Contains zs u) (sym e) (Contains-append_left ys (k ∷ []) u ((has u).0 (subst (λ o. IsSome o) same s)))
    ]),
    (λ m. elim (apart u) [
      | inl this ↦ subst (λ o. IsSome o) (sym (ap c this ∙ here)) refl
      | inr same ↦ elim (Contains-push_cases ys k u (subst (λ zs. Contains zs u) e m)) [
        | inl old ↦ subst (λ o. IsSome o) (sym same) ((has u).1 old)
        | inr new ↦ subst (λ o. IsSome o) (sym (ap c (sym new) ∙ here)) refl
      ]
    ]),
  )

-- one that fails, where not all pass
pub not_all : {X : Type 0} (p : X → Bool) (xs : List X) → list_all p xs ≡ false → (x : X) × Contains xs x × (p x ≡ false)
not_all p [] h = absurd cc
not_all {X} p (x ∷ xs) h = go (p x) refl (not_all p xs)
  where
    go : (b : Bool) → p x ≡ b → (list_all p xs ≡ false → (y : X) × Contains xs y × (p y ≡ false)) → (y : X) × Contains (x ∷ xs) y × (p y ≡ false)
    go false e next = (x, contains_head x xs, e)
    go true e next = let (y, c, f) = next (sym (ap (λ b. b && list_all p xs) e) ∙ h) in (y, contains_tail x xs y c, f)

pub has_none : {X : Type 0} (b : Uid → Option X) → ((u : Uid) → b u ≡ None) → (u : Uid) → IsSome (b u) ↔ Contains [] u
has_none b none u = ((λ s. let t : is_some (b u) ≡ true = s in let f : is_some (b u) ≡ false = ap is_some (none u) in absurd cc), (λ k. absurd (contains_none u k)))
