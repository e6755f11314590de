-- Recorded ancestors, each with whether it is a parent.
use Rattle.std.proofs.Common.{◌≡◌, ℕ, suc, Bool, true, false, cond, ◌||◌, List, [], ◌∷◌, ◌++◌, map, length, set, Option, Some, None, option_map, refl, sym, ap, ◌∙◌, subst, arith}
use Rattle.std.proofs.lemmas.List.{map-append}
use Rattle.std.proofs.lemmas.Option.{same_Some}
use Rattle.std.specs.List.{list_any, zip, slice_get, AllZip}
use Rattle.std.specs.Map.{lookup}
use Rattle.std.specs.Option.{option_and_then}
use Rattle.cedar_expr_model.specs.Uid.{Uid, uid_eq}
use Rattle.cedar_store_entities.specs.Places.{place_in}
use Rattle.cedar_store_entities.specs.Recorded.{Kin, uids_of_kin, recorded, all_recorded, with_parent, with_indirect, with_parents, with_indirects}
use Rattle.cedar_store_entities.proofs.Placed.{neither, step}

-- one more as a parent is one more that is recorded
front : (k : Uid) (us vs : List Uid) (t : Bool) → k ∷ cond t us vs ≡ cond t (k ∷ us) (k ∷ vs)
front k us vs true = refl
front k us vs false = refl

at_first : (b t : Bool) (k : Uid × Bool) (ks more : Kin) (vs : List Uid) → uids_of_kin more ≡ cond t (uids_of_kin ks) vs
    → uids_of_kin (cond b ((k.0, true) ∷ ks) (k ∷ more)) ≡ cond (b || t) (k.0 ∷ uids_of_kin ks) (k.0 ∷ vs)
at_first true t k ks more vs h = refl
at_first false t k ks more vs h = ap (λ us. k.0 ∷ us) h ∙ front k.0 (uids_of_kin ks) vs t

pub parent_recorded : (ks : Kin) (u : Uid) → uids_of_kin (with_parent ks u) ≡ recorded (uids_of_kin ks) u
parent_recorded [] u = refl
parent_recorded (k ∷ ks) u = at_first (uid_eq u k.0) (list_any (uid_eq u) (uids_of_kin ks)) k ks (with_parent ks u) (uids_of_kin ks ++ u ∷ []) (parent_recorded ks u)

-- so is one more that is no parent
behind : (ks : Kin) (u : Uid) (t : Bool) → uids_of_kin (cond t ks (ks ++ (u, false) ∷ [])) ≡ cond t (uids_of_kin ks) (uids_of_kin ks ++ u ∷ [])
behind ks u true = refl
behind ks u false = map-append (λ (k : Uid × Bool). k.0) ks ((u, false) ∷ [])

pub indirect_recorded : (ks : Kin) (u : Uid) → uids_of_kin (with_indirect ks u) ≡ recorded (uids_of_kin ks) u
indirect_recorded ks u = behind ks u (list_any (uid_eq u) (uids_of_kin ks))

-- and so are many
parents_recorded : (ks : Kin) (us : List Uid) → uids_of_kin (with_parents ks us) ≡ all_recorded (uids_of_kin ks) us
parents_recorded ks [] = refl
parents_recorded ks (u ∷ us) = parents_recorded (with_parent ks u) us ∙ ap (λ vs. all_recorded vs us) (parent_recorded ks u)

indirects_recorded : (ks : Kin) (us : List Uid) → uids_of_kin (with_indirects ks us) ≡ all_recorded (uids_of_kin ks) us
indirects_recorded ks [] = refl
indirects_recorded ks (u ∷ us) = indirects_recorded (with_indirect ks u) us ∙ ap (λ vs. all_recorded vs us) (indirect_recorded ks u)

pub both_recorded : (ks mid more : Kin) (us vs : List Uid) → ks ≡ [] → mid ≡ with_indirects ks us → more ≡ with_parents mid vs → uids_of_kin more ≡ all_recorded (all_recorded [] us) vs
both_recorded ks mid more us vs n i p =
    ap uids_of_kin p ∙ parents_recorded mid vs
    ∙ ap (λ ws. all_recorded ws vs) (ap uids_of_kin i ∙ indirects_recorded ks us ∙ ap (λ (js : Kin). all_recorded (uids_of_kin js) us) n)

-- what is recorded of ancestors alone
pub parent_more : (old new : Kin) (u : Uid) → new ≡ with_parent old u → uids_of_kin new ≡ recorded (uids_of_kin old) u
parent_more old new u h = ap uids_of_kin h ∙ parent_recorded old u

pub indirect_more : (old new : Kin) (u : Uid) → new ≡ with_indirect old u → uids_of_kin new ≡ recorded (uids_of_kin old) u
indirect_more old new u h = ap uids_of_kin h ∙ indirect_recorded old u

-- one more that isn't recorded
pub parent_fresh : (ks : Kin) (u : Uid) → list_any (uid_eq u) (uids_of_kin ks) ≡ false → ks ++ (u, true) ∷ [] ≡ with_parent ks u
parent_fresh [] u f = refl
parent_fresh (k ∷ ks) u f =
    let g = neither (uid_eq u k.0) (list_any (uid_eq u) (uids_of_kin ks)) f in
    ap (λ js. k ∷ js) (parent_fresh ks u g.1) ∙ ap (λ b. cond b ((k.0, true) ∷ ks) (k ∷ with_parent ks u)) (sym g.0)

pub indirect_fresh : (ks : Kin) (u : Uid) → list_any (uid_eq u) (uids_of_kin ks) ≡ false → ks ++ (u, false) ∷ [] ≡ with_indirect ks u
indirect_fresh ks u f = ap (λ b. cond b ks (ks ++ (u, false) ∷ [])) (sym f)

pub indirect_known : (ks : Kin) (u : Uid) → list_any (uid_eq u) (uids_of_kin ks) ≡ true → ks ≡ with_indirect ks u
indirect_known ks u f = ap (λ b. cond b ks (ks ++ (u, false) ∷ [])) (sym f)

-- uids and whether they are parents, place by place
no_length : (n : ℕ) → 0 ≡ suc n → ⊥
no_length n h = omega arith

shorter : (m n : ℕ) → suc m ≡ suc n → m ≡ n
shorter m n h = omega arith

pub uids_zipped : (us : List Uid) (bs : List Bool) → length bs ≡ length us → uids_of_kin (zip us bs) ≡ us
uids_zipped [] bs l = refl
uids_zipped (u ∷ us) [] l = absurd (no_length (length us) l)
uids_zipped (u ∷ us) (b ∷ bs) l = ap (λ vs. u ∷ vs) (uids_zipped us bs (shorter (length bs) (length us) l))

pub zip_more : (us : List Uid) (bs : List Bool) (u : Uid) (b : Bool) → length bs ≡ length us → zip (us ++ u ∷ []) (bs ++ b ∷ []) ≡ zip us bs ++ (u, b) ∷ []
zip_more [] [] u b l = refl
zip_more [] (c ∷ bs) u b l = absurd (no_length (length bs) (sym l))
zip_more (v ∷ us) [] u b l = absurd (no_length (length us) l)
zip_more (v ∷ us) (c ∷ bs) u b l = ap (λ ks. (v, c) ∷ ks) (zip_more us bs u b (shorter (length bs) (length us) l))

-- what is recorded of a uid
pub zip_looked : (us : List Uid) (bs : List Bool) (u : Uid) → length bs ≡ length us → lookup (uid_eq u) (zip us bs) ≡ option_and_then (slice_get bs) (place_in us u)
zip_looked [] bs u l = refl
zip_looked (v ∷ us) [] u l = absurd (no_length (length us) l)
zip_looked (v ∷ us) (b ∷ bs) u l = step (uid_eq u v) b bs (place_in us u) (lookup (uid_eq u) (zip us bs)) (zip_looked us bs u (shorter (length bs) (length us) l))

-- what is recorded becomes a parent in its place
pub parent_set : (us : List Uid) (bs : List Bool) (u : Uid) (n : ℕ) → length bs ≡ length us → place_in us u ≡ Some n → zip us (set bs n true) ≡ with_parent (zip us bs) u
parent_set [] bs u n l p = cc
parent_set (v ∷ us) [] u n l p = absurd (no_length (length us) l)
parent_set (v ∷ us) (b ∷ bs) u n l p = go (uid_eq u v) (place_in us u) p (λ m q. parent_set us bs u m (shorter (length bs) (length us) l) q)
  where
    go : (t : Bool) (o : Option ℕ) → cond t (Some 0) (option_map suc o) ≡ Some n → ((m : ℕ) → o ≡ Some m → zip us (set bs m true) ≡ with_parent (zip us bs) u)
        → zip (v ∷ us) (set (b ∷ bs) n true) ≡ cond t ((v, true) ∷ zip us bs) ((v, b) ∷ with_parent (zip us bs) u)
    go true o q f = subst (λ k. zip (v ∷ us) (set (b ∷ bs) k true) ≡ (v, true) ∷ zip us bs) (same_Some 0 n q) refl
    go false None q f = cc
    go false (Some m) q f = subst (λ k. zip (v ∷ us) (set (b ∷ bs) k true) ≡ (v, b) ∷ with_parent (zip us bs) u) (same_Some (suc m) n q) (ap (λ ks. (v, b) ∷ ks) (f m refl))

-- copies of them
pub bools_copied : (bs cs : List Bool) → AllZip (λ b c. c ≡ b) bs cs → cs ≡ bs
bools_copied [] [] h = refl
bools_copied [] (c ∷ cs) h = absurd h
bools_copied (b ∷ bs) [] h = absurd h
bools_copied (b ∷ bs) (c ∷ cs) h = λ i. h.0 i ∷ bools_copied bs cs h.1 i
