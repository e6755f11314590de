-- What is found under a name, and tests over lists.
use Rattle.std.proofs.Common.{◌≡◌, ◌∙◌, List, [], ◌∷◌, map, Bool, true, false, cond, Option, Some, None, is_some, refl, sym, ap, subst}
use Rattle.std.specs.Prelude.{Contains}
use Rattle.std.specs.Bool.{Decides, one_answer}
use Rattle.std.specs.List.{list_any, find}
use Rattle.cedar_expr_model.proofs.Lists.{contains_head, contains_tail, contains_cases, contains_none, any_has, any_from}

-- tests that hold of each other
pub same_test : (a b : Bool) → (a ≡ true → b ≡ true) → (b ≡ true → a ≡ true) → a ≡ b
same_test a b f g = one_answer a b (λ h. h, λ h. h) (g, f)

pub never : (a : Bool) → (a ≡ true → ⊥) → a ≡ false
never true h = absurd (h refl)
never false h = refl

pub not_so : {P : Type 0} (a : Bool) → a ≡ true → a ≡ false → P
not_so a h n = absurd (let q : true ≡ false = sym h ∙ n in cc)

-- a test of some member, in lists with the same members
any_within : {X : Type 0} (p : X → Bool) (xs ys : List X) → ((x : X) → Contains xs x → Contains ys x) → list_any p xs ≡ true → list_any p ys ≡ true
any_within p xs ys h e = let r = any_from p xs e in any_has p ys r.0 (h r.0 r.1) r.2

pub any_alike : {X : Type 0} (p : X → Bool) (xs ys : List X) → ((x : X) → Contains xs x → Contains ys x) → ((x : X) → Contains ys x → Contains xs x) → list_any p xs ≡ list_any p ys
any_alike p xs ys f g = same_test (list_any p xs) (list_any p ys) (any_within p xs ys f) (any_within p ys xs g)

module _ {A S : Type 0} (eq : S → S → Bool) (decides : (s t : S) → Decides (eq s t) (s ≡ t)) (name : A → S) where
  -- what is found is there, under its name
  pub found_there : (s : S) (as_ : List A) (a : A) → find (λ b. eq s (name b)) as_ ≡ Some a → Contains as_ a × (s ≡ name a)
  found_there s [] a h = absurd (cc)
  found_there s (b ∷ bs) a h = go (found_there s bs a) (eq s (name b)) refl
    where
      some_same : (x y : A) → Some x ≡ Some y → x ≡ y
      some_same x y q = cc

      step : (t : Bool) → eq s (name b) ≡ t → cond t (Some b) (find (λ b. eq s (name b)) bs) ≡ Some a
      step t e = ap (λ c. cond c (Some b) (find (λ b. eq s (name b)) bs)) (sym e) ∙ h

      go : (find (λ b. eq s (name b)) bs ≡ Some a → Contains bs a × (s ≡ name a)) → (t : Bool) → eq s (name b) ≡ t → Contains (b ∷ bs) a × (s ≡ name a)
      go rest true e = let same = some_same b a (step true e) in (subst (Contains (b ∷ bs)) same (contains_head b bs), (decides s (name b)).0 e ∙ ap name same)
      go rest false e = let r = rest (step false e) in (contains_tail b bs a r.0, r.1)

  -- something is found under a name that is there, and under no other
  pub name_found : (s : S) (as_ : List A) → Contains (map name as_) s → is_some (find (λ b. eq s (name b)) as_) ≡ true
  name_found s [] c = absurd (contains_none s c)
  name_found s (a ∷ as_) c =
      contains_cases (is_some (find (λ b. eq s (name b)) (a ∷ as_)) ≡ true) (name a) (map name as_) s c
      (λ e. ap (λ b. is_some (cond b (Some a) (find (λ b. eq s (name b)) as_))) ((decides s (name a)).1 (sym e)))
      (λ d. go (eq s (name a)) (name_found s as_ d))
    where
      go : (b : Bool) → is_some (find (λ b. eq s (name b)) as_) ≡ true → is_some (cond b (Some a) (find (λ b. eq s (name b)) as_)) ≡ true
      go true h = refl
      go false h = h

  pub found_name : (s : S) (as_ : List A) → is_some (find (λ b. eq s (name b)) as_) ≡ true → Contains (map name as_) s
  found_name s [] h = absurd (cc)
  found_name s (a ∷ as_) h = go (eq s (name a)) refl (found_name s as_)
    where
      there : (b : Bool) → eq s (name a) ≡ b → is_some (cond b (Some a) (find (λ b. eq s (name b)) as_)) ≡ true
      there b e = ap (λ b. is_some (cond b (Some a) (find (λ b. eq s (name b)) as_))) (sym e) ∙ h

      go : (b : Bool) → eq s (name a) ≡ b → (is_some (find (λ b. eq s (name b)) as_) ≡ true → Contains (map name as_) s) → Contains (name a ∷ map name as_) s
      go true e rest = subst (Contains (name a ∷ map name as_)) (sym ((decides s (name a)).0 e)) (contains_head (name a) (map name as_))
      go false e rest = contains_tail (name a) (map name as_) s (rest (there false e))

-- nothing is there
pub none_there : {A : Type 0} (o : Option A) → false ≡ is_some o → o ≡ None
none_there None h = refl
none_there (Some a) h = absurd (cc)
