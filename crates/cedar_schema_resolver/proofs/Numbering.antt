-- One node after the other gets its number.
use Rattle.std.proofs.Common.{◌≡◌, ℕ, List, [], ◌∷◌, ◌++◌, Bool, true, false, cond, Option, Some, None, length, get_or, map, take, ◌<◌, ◌+◌, ◌≤◌, is_some, refl, sym, ap, ◌∙◌, subst, ⊎_elim, arith}
use Rattle.std.specs.List.{filter_map, cons_option}
use Rattle.std.proofs.lemmas.List.Elements.{filter_map-append}
use Rattle.std.proofs.lemmas.List.{append-nil, map-append, take_more, take_all, length-take-le}
use Rattle.std.specs.Prelude.{Contains}
use Rattle.std.specs.Bool.{Decides}
use Rattle.std.proofs.lemmas.Bool.{true≢false}
use Rattle.std.proofs.lemmas.List.Elements.{Contains-push_cases}
use Rattle.cedar_expr_model.proofs.Lists.{contains_none}
use Rattle.std.specs.declared.alloc.Global.{Global}
use Rattle.std.specs.declared.vec.Vec.{Vec}
use Rattle.cedar_schema_resolver.specs.Numbers.{IsAt, AreNumbers, AreOnce, StoodBefore, rows_of}
use Rattle.cedar_schema_resolver.proofs.Places.{at_in, at_kept, at_last, once_more}
use Rattle.cedar_schema_model.specs.BagLaws.{HasTwice}

some_is : (i j : ℕ) → Some i ≡ Some j → i ≡ j
some_is i j e = cc

module _ {N S : Type 0} (seen : N → S) where
  pub no_numbers : AreNumbers seen [] (λ q. None)
  no_numbers = record { only = λ q i e. cc; all = λ q c. absurd (contains_none (seen q) c) }

  pub one_number : (names : List S) (f g : N → Option ℕ) (met : N → Bool) (k : N) (n : ℕ) → ((q : N) → Decides (met q) (seen k ≡ seen q)) → ((q : N) → g q ≡ cond (met q) (Some n) (f q)) → length names ≡ n → AreNumbers seen names f → AreNumbers seen (names ++ seen k ∷ []) g
  one_number names f g met k n told made e a = record { only = λ q i h. only q i (met q) refl (sym (made q) ∙ h); all = λ q c. all q (met q) refl c }
    where
      only : (q : N) (i : ℕ) (b : Bool) → met q ≡ b → cond (met q) (Some n) (f q) ≡ Some i → IsAt (names ++ seen k ∷ []) i (seen q)
      only q i true m h =
          let number : n ≡ i = some_is n i (ap (λ b. cond b (Some n) (f q)) (sym m) ∙ h) in
          subst (λ j. IsAt (names ++ seen k ∷ []) j (seen q)) number (subst (IsAt (names ++ seen k ∷ []) n) ((told q).0 m) (at_last names n (seen k) e))
      only q i false m h = at_kept names (seen k ∷ []) i (seen q) (a.only q i (ap (λ b. cond b (Some n) (f q)) (sym m) ∙ h))

      all : (q : N) (b : Bool) → met q ≡ b → Contains (names ++ seen k ∷ []) (seen q) → (i : ℕ) × (g q ≡ Some i)
      all q true m c = (n, made q ∙ ap (λ b. cond b (Some n) (f q)) m)
      all q false m c =
          ⊎_elim
          (λ h. let r = a.all q h in (r.0, made q ∙ ap (λ b. cond b (Some n) (f q)) m ∙ r.1))
          (λ h. absurd (true≢false (sym ((told q).1 h) ∙ m)))
          (Contains-push_cases names (seen k) (seen q) c)

  -- what has no number isn't named, and what has one is
  pub not_named : (names : List S) (f : N → Option ℕ) (k : N) → AreNumbers seen names f → f k ≡ None → Contains names (seen k) → ⊥
  not_named names f k a e c = let r = a.all k c in absurd (none_some r.0 (sym e ∙ r.1))
    where
      none_some : (i : ℕ) → None ≡ Some i → ⊥
      none_some i h = cc

-- the names before this number
pub names_next : {S : Type 0} (names : List S) (n : ℕ) (s : S) → IsAt names n s → take (n + 1) names ≡ take n names ++ s ∷ []
names_next names n s h = take_more names n s h.0 ∙ ap (λ y. take n names ++ y ∷ []) h.1

module _ {N S : Type 0} (seen : N → S) where
  pub record Numbered (names : List S) (n : ℕ) (f : N → Option ℕ) : Type 0 where
    pub numbers : AreNumbers seen (take n names) f
    pub once : AreOnce (take n names)

  pub numbered_begins : (names : List S) (f : N → Option ℕ) → ((q : N) → f q ≡ None) → Numbered names 0 f
  numbered_begins names f e = record { numbers = record { only = λ q i h. absurd (none_is i (sym (e q) ∙ h)); all = λ q c. absurd (contains_none (seen q) c) }; once = record { none = λ t. t } }
    where
      none_is : (i : ℕ) → None ≡ Some i → ⊥
      none_is i h = cc

  pub numbered_goes : (names : List S) (n : ℕ) (f g : N → Option ℕ) (met : N → Bool) (k : N) → ((q : N) → Decides (met q) (seen k ≡ seen q)) → IsAt names n (seen k) → f k ≡ None → ((q : N) → g q ≡ cond (met q) (Some n) (f q)) → Numbered names n f → Numbered names (n + 1) g
  numbered_goes names n f g met k told at e made p =
      let l = at.0 in
      let next = names_next names n (seen k) at in
      record {
        numbers = subst (λ ns. AreNumbers seen ns g) (sym next) (one_number seen (take n names) f g met k n told made (length-take-le n names (omega (arith, l))) p.numbers);
        once = record { none = λ t. once_more (take n names) (seen k) p.once.none (not_named seen (take n names) f k p.numbers e) (subst HasTwice next t) };
      }

  pub numbered_ends : (names : List S) (n : ℕ) (f : N → Option ℕ) → length names ≤ n → Numbered names n f → AreNumbers seen names f × AreOnce names
  numbered_ends names n f l p = let e = take_all n names l in (subst (λ ns. AreNumbers seen ns f) e p.numbers, subst AreOnce e p.once)

  -- a node that has a number already stood before
  pub stood_before : (names : List S) (n : ℕ) (f : N → Option ℕ) (k : N) → IsAt names n (seen k) → is_some (f k) ≡ true → Numbered names n f → StoodBefore names n
  stood_before names n f k at e p = go (f k) refl e
    where
      go : (o : Option ℕ) → f k ≡ o → is_some o ≡ true → StoodBefore names n
      go None q h = absurd (true≢false (sym h))
      go (Some i) q h = (seen k, at, at_in (take n names) i (seen k) (p.numbers.only k i q))

pub none_there : (o : Option ℕ) → is_some o ≡ false → o ≡ None
none_there None e = refl
none_there (Some i) e = absurd (true≢false e)

-- one more of those that have a number
pub kept_some : {X Y : Type 0} (f : X → Option Y) (xs : List X) (i : ℕ) (x : X) (y : Y) → i < length xs → x ≡ get_or xs i x → f x ≡ Some y → filter_map f (take (i + 1) xs) ≡ filter_map f (take i xs) ++ y ∷ []
kept_some f xs i x y l e q =
    ap (filter_map f) (take_more xs i x l)
    ∙ filter_map-append f (take i xs) (get_or xs i x ∷ [])
    ∙ ap (λ z. filter_map f (take i xs) ++ cons_option (f z) []) (sym e)
    ∙ ap (λ o. filter_map f (take i xs) ++ cons_option o []) q

pub kept_none : {X Y : Type 0} (f : X → Option Y) (xs : List X) (i : ℕ) (x : X) → i < length xs → x ≡ get_or xs i x → f x ≡ None → filter_map f (take (i + 1) xs) ≡ filter_map f (take i xs)
kept_none f xs i x l e q =
    ap (filter_map f) (take_more xs i x l)
    ∙ filter_map-append f (take i xs) (get_or xs i x ∷ [])
    ∙ ap (λ z. filter_map f (take i xs) ++ cons_option (f z) []) (sym e)
    ∙ ap (λ o. filter_map f (take i xs) ++ cons_option o []) q
    ∙ append-nil (filter_map f (take i xs))

-- one more row
abbrev pub items_of : List (Vec ℕ Global) → List (List ℕ)
items_of rows = map (λ r. r.items) rows

pub row_one : {N : Type 0} (f : N → Option ℕ) (ts : List (N × Vec N Global)) (rows more : List (Vec ℕ Global)) (r : Vec ℕ Global) (i : ℕ) (t : N × Vec N Global) → i < length ts → t ≡ get_or ts i t → r.items ≡ filter_map f t.1.items → more ≡ rows ++ r ∷ [] → items_of rows ≡ rows_of f (take i ts) → items_of more ≡ rows_of f (take (i + 1) ts)
row_one f ts rows more r i t l e q m so =
    ap items_of m ∙ map-append (λ r. r.items) rows (r ∷ [])
    ∙ ap (λ ns. ns ++ r.items ∷ []) so
    ∙ ap (λ n. rows_of f (take i ts) ++ n ∷ []) (q ∙ ap (λ u. filter_map f u.1.items) e)
    ∙ sym (ap (rows_of f) (take_more ts i t l) ∙ map-append (λ u. filter_map f u.1.items) (take i ts) (get_or ts i t ∷ []))
