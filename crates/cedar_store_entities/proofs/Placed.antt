-- Places of uids among others, and what stands at them.
use Rattle.std.proofs.Common.{◌≡◌, ℕ, suc, ◌<◌, Bool, true, false, cond, ◌||◌, List, [], ◌∷◌, ◌++◌, map, length, Option, Some, None, is_some, option_map, refl, sym, ap, ◌∙◌, arith}
use Rattle.std.specs.List.{list_any, slice_get}
use Rattle.std.specs.Map.{lookup}
use Rattle.std.specs.Option.{option_and_then, IfSome}
use Rattle.std.proofs.lemmas.Option.{slice_get-map, same_Some}
use Rattle.cedar_expr_model.specs.Uid.{Uid, uid_eq}
use Rattle.cedar_store_entities.specs.Places.{place_in}

-- a uid has a place where it is one of these
some_next : (o : Option ℕ) → is_some (option_map suc o) ≡ is_some o
some_next None = refl
some_next (Some n) = refl

first_some : (b : Bool) (o : Option ℕ) → is_some (cond b (Some 0) o) ≡ (b || is_some o)
first_some true o = refl
first_some false o = refl

pub has_place : (us : List Uid) (u : Uid) → is_some (place_in us u) ≡ list_any (uid_eq u) us
has_place [] u = refl
has_place (v ∷ us) u = first_some (uid_eq u v) (option_map suc (place_in us u)) ∙ ap (λ t. uid_eq u v || t) (some_next (place_in us u) ∙ has_place us u)

none_is : {A : Type 0} (o : Option A) → is_some o ≡ false → o ≡ None
none_is None h = refl
none_is (Some x) h = cc

pub no_place : (us : List Uid) (u : Uid) → list_any (uid_eq u) us ≡ false → place_in us u ≡ None
no_place us u h = none_is (place_in us u) (has_place us u ∙ h)

-- where a uid has no place, it is none of these
pub none_there : (us : List Uid) (u : Uid) → place_in us u ≡ None → list_any (uid_eq u) us ≡ false
none_there us u h = sym (has_place us u) ∙ ap is_some h

-- a place is among the places
first_in : (n : ℕ) → 0 < suc n
first_in n = omega arith

next_in : (i n : ℕ) → i < n → suc i < suc n
next_in i n h = omega arith

further_in : (b : Bool) (o : Option ℕ) (n : ℕ) → IfSome o (λ i. i < n) → IfSome (cond b (Some 0) (option_map suc o)) (λ i. i < suc n)
further_in true o n h = first_in n
further_in false None n h = tt
further_in false (Some i) n h = next_in i n h

pub place_inside : (us : List Uid) (u : Uid) → IfSome (place_in us u) (λ i. i < length us)
place_inside [] u = tt
place_inside (v ∷ us) u = further_in (uid_eq u v) (place_in us u) (length us) (place_inside us u)

-- one more uid behind the others has the next place, and the others keep theirs
pub neither : (a b : Bool) → (a || b) ≡ false → (a ≡ false) × (b ≡ false)
neither true b h = cc
neither false b h = (refl, h)

pub place_kept : (us : List Uid) (v u : Uid) → uid_eq u v ≡ false → place_in (us ++ v ∷ []) u ≡ place_in us u
place_kept [] v u e = ap (λ b. cond b (Some 0) None) e
place_kept (w ∷ us) v u e = ap (λ o. cond (uid_eq u w) (Some 0) (option_map suc o)) (place_kept us v u e)

pub place_new : (us : List Uid) (v u : Uid) → uid_eq u v ≡ true → list_any (uid_eq u) us ≡ false → place_in (us ++ v ∷ []) u ≡ Some (length us)
place_new [] v u e f = ap (λ b. cond b (Some 0) None) e
place_new (w ∷ us) v u e f =
    let g = neither (uid_eq u w) (list_any (uid_eq u) us) f in
    ap (λ b. cond b (Some 0) (option_map suc (place_in (us ++ v ∷ []) u))) g.0 ∙ ap (option_map suc) (place_new us v u e g.1)

-- what stands at the place of a uid
pub step : {A : Type 0} (b : Bool) (y : A) (ys : List A) (p : Option ℕ) (o : Option A) → o ≡ option_and_then (slice_get ys) p → cond b (Some y) o ≡ option_and_then (slice_get (y ∷ ys)) (cond b (Some 0) (option_map suc p))
step true y ys p o h = refl
step false y ys None o h = h
step false y ys (Some n) o h = h

module _ {X : Type 0} (name : X → Uid) where
  module _ {A : Type 0} (see : X → A) where
    looked : (xs : List X) (u : Uid) → lookup (uid_eq u) (map (λ x. (name x, see x)) xs) ≡ option_and_then (slice_get (map see xs)) (place_in (map name xs) u)
    looked [] u = refl
    looked (x ∷ xs) u = step (uid_eq u (name x)) (see x) (map see xs) (place_in (map name xs) u) (lookup (uid_eq u) (map (λ x. (name x, see x)) xs)) (looked xs u)

    pub seen_there : (xs : List X) (u : Uid) (n : ℕ) (x : X) → place_in (map name xs) u ≡ Some n → slice_get xs n ≡ Some x → lookup (uid_eq u) (map (λ x. (name x, see x)) xs) ≡ Some (see x)
    seen_there xs u n x p h = looked xs u ∙ ap (option_and_then (slice_get (map see xs))) p ∙ slice_get-map see xs n ∙ ap (option_map see) h

    pub seen_nowhere : (xs : List X) (u : Uid) → place_in (map name xs) u ≡ None → lookup (uid_eq u) (map (λ x. (name x, see x)) xs) ≡ None
    seen_nowhere xs u p = looked xs u ∙ ap (option_and_then (slice_get (map see xs))) p

  pub own_place : (xs : List X) (u : Uid) (n : ℕ) (x : X) → place_in (map name xs) u ≡ Some n → slice_get xs n ≡ Some x → uid_eq u (name x) ≡ true
  own_place [] u n x p h = cc
  own_place (y ∷ xs) u n x p h = go (uid_eq u (name y)) (place_in (map name xs) u) refl p (λ m q g. own_place xs u m x q g)
    where
      go : (t : Bool) (o : Option ℕ) → uid_eq u (name y) ≡ t → cond t (Some 0) (option_map suc o) ≡ Some n → ((m : ℕ) → o ≡ Some m → slice_get xs m ≡ Some x → uid_eq u (name x) ≡ true) → uid_eq u (name x) ≡ true
      go true o e q f = ap (λ z. uid_eq u (name z)) (sym (same_Some y x (ap (slice_get (y ∷ xs)) (same_Some 0 n q) ∙ h))) ∙ e
      go false None e q f = cc
      go false (Some m) e q f = f m refl (ap (slice_get (y ∷ xs)) (same_Some (suc m) n q) ∙ h)
