-- Uids of which none is repeated, and maps that lead to their places.
use Rattle.std.proofs.Common.{◌≡◌, ℕ, Bool, true, false, cond, List, [], ◌∷◌, ◌++◌, map, length, Option, Some, None, refl, sym, ap, ◌∙◌, subst}
use Rattle.std.specs.Prelude.{Contains}
use Rattle.std.proofs.lemmas.List.{map-append, length-map}
use Rattle.std.proofs.lemmas.List.Elements.{Contains-append_left}
use Rattle.std.specs.BTreeMap.{is_at}
use Rattle.std.specs.List.{list_any, AllZip}
use Rattle.std.specs.Map.{lookup}
use Rattle.cedar_expr_model.specs.Uid.{Uid, uid_eq}
use Rattle.cedar_expr_model.specs.ListLaws.{AreDistinct}
use Rattle.cedar_expr_model.proofs.Equality.{uid_eq-Decides}
use Rattle.cedar_expr_model.proofs.Lists.{found-Decides}
use Rattle.cedar_expr_model.proofs.Repeating.{distinct_apart, distinct_last}
use Rattle.cedar_expr_names.specs.Views.{uid_of, uid_loc}
use Rattle.cedar_expr_names.specs.declared.entity.EntityUID.{EntityUID}
use Rattle.cedar_store_model.proofs.Distinct.{distinct-Decides}
use Rattle.cedar_store_entities.specs.Places.{place_in, found_at, Leads, are_apart}
use Rattle.cedar_store_entities.proofs.Placed.{no_place, place_kept, place_new}
use Rattle.cedar_store_entities.proofs.Uids.{uid_eq_sym, uids_by, same_uid, by_its_uid}

-- no uid is repeated
pub apart_distinct : (us : List Uid) → are_apart us ≡ true → AreDistinct us
apart_distinct us d = (distinct-Decides uid_eq uid_eq-Decides us).0 d

false_is : (b : Bool) → (b ≡ true → ⊥) → b ≡ false
false_is true n = absurd (n refl)
false_is false n = refl

pub not_among : (us : List Uid) (u : Uid) → (Contains us u → ⊥) → list_any (uid_eq u) us ≡ false
not_among us u n = false_is (list_any (uid_eq u) us) (λ h. n ((found-Decides uid_eq uid_eq-Decides u us).0 h))

true_is_not : true ≡ false → ⊥
true_is_not q = cc

pub apart_more : (us : List Uid) (u : Uid) → are_apart us ≡ true → list_any (uid_eq u) us ≡ false → are_apart (us ++ u ∷ []) ≡ true
apart_more us u d f =
    (distinct-Decides uid_eq uid_eq-Decides (us ++ u ∷ [])).1
    (distinct_last us u (apart_distinct us d) (λ c. true_is_not (sym ((found-Decides uid_eq uid_eq-Decides u us).1 c) ∙ f)))

distinct_front : (us : List Uid) (u : Uid) → AreDistinct (us ++ u ∷ []) → AreDistinct us
distinct_front [] u d = tt
distinct_front (v ∷ us) u d = (λ c. d.0 (Contains-append_left us (u ∷ []) v c), distinct_front us u d.1)

pub apart_less : (us : List Uid) (u : Uid) → are_apart (us ++ u ∷ []) ≡ true → (are_apart us ≡ true) × (list_any (uid_eq u) us ≡ false)
apart_less us u d =
    let e = apart_distinct (us ++ u ∷ []) d in
    ((distinct-Decides uid_eq uid_eq-Decides us).1 (distinct_front us u e), not_among us u (distinct_apart us u [] e))

abbrev uids : List EntityUID → List Uid
uids us = map uid_of us

pub uids_more : (us : List EntityUID) (u : EntityUID) → uids (us ++ u ∷ []) ≡ uids us ++ uid_of u ∷ []
uids_more us u = map-append uid_of us (u ∷ [])

-- what stands at each uid after a write
abbrev IsWritten : List (EntityUID × ℕ) → List (EntityUID × ℕ) → EntityUID → Option ℕ → Type 0
IsWritten old new k w = (q : EntityUID) → lookup (is_at (uids_by q)) new ≡ cond (is_at (uids_by k) q) w (lookup (is_at (uids_by q)) old)

written : (old new : List (EntityUID × ℕ)) (k : EntityUID) (w : Option ℕ) → IsWritten old new k w → (q : EntityUID) → found_at new (uid_of q) ≡ cond (uid_eq (uid_of q) (uid_of k)) w (found_at old (uid_of q))
written old new k w up q = sym (by_its_uid new q) ∙ up q ∙ (λ i. cond ((same_uid k q ∙ uid_eq_sym (uid_of k) (uid_of q)) i) w (by_its_uid old q i))

-- one more uid, with its place
pub led_more : (old new : List (EntityUID × ℕ)) (us : List EntityUID) (u k : EntityUID) (n : ℕ) → uid_of k ≡ uid_of u → n ≡ length us → Leads old us → list_any (uid_eq (uid_of u)) (uids us) ≡ false → IsWritten old new k (Some n)
    → Leads new (us ++ u ∷ [])
led_more old new us u k n e l led fresh up q =
    written old new k (Some n) up q
    ∙ ap (λ v. cond (uid_eq (uid_of q) v) (Some n) (found_at old (uid_of q))) e
    ∙ go (uid_eq (uid_of q) (uid_of u)) refl
    ∙ ap (λ vs. place_in vs (uid_of q)) (sym (uids_more us u))
  where
    go : (t : Bool) → uid_eq (uid_of q) (uid_of u) ≡ t → cond t (Some n) (found_at old (uid_of q)) ≡ place_in (uids us ++ uid_of u ∷ []) (uid_of q)
    go true h =
        let none = ap (λ v. list_any (uid_eq v) (uids us)) ((uid_eq-Decides (uid_of q) (uid_of u)).0 h) ∙ fresh in
        ap Some (l ∙ sym (length-map us uid_of)) ∙ sym (place_new (uids us) (uid_of u) (uid_of q) h none)
    go false h = led q ∙ sym (place_kept (uids us) (uid_of u) (uid_of q) h)

-- the last uid less
pub led_less : (old new : List (EntityUID × ℕ)) (us : List EntityUID) (u : EntityUID) → Leads old (us ++ u ∷ []) → list_any (uid_eq (uid_of u)) (uids us) ≡ false → IsWritten old new u None → Leads new us
led_less old new us u led fresh up q = written old new u None up q ∙ go (uid_eq (uid_of q) (uid_of u)) refl
  where
    go : (t : Bool) → uid_eq (uid_of q) (uid_of u) ≡ t → cond t None (found_at old (uid_of q)) ≡ place_in (uids us) (uid_of q)
    go true h = sym (no_place (uids us) (uid_of q) (ap (λ v. list_any (uid_eq v) (uids us)) ((uid_eq-Decides (uid_of q) (uid_of u)).0 h) ∙ fresh))
    go false h = led q ∙ ap (λ vs. place_in vs (uid_of q)) (uids_more us u) ∙ place_kept (uids us) (uid_of u) (uid_of q) h

-- a copy of a uid, and one with its place
abbrev pub IsUidCopied : EntityUID → EntityUID → Type 0
IsUidCopied p q = (uid_of q ≡ uid_of p) × (uid_loc q ≡ uid_loc p)

abbrev pub IsPlaceCopied : EntityUID × ℕ → EntityUID × ℕ → Type 0
IsPlaceCopied p q = IsUidCopied p.0 q.0 × (q.1 ≡ p.1)

pub uids_copied : (us vs : List EntityUID) → AllZip IsUidCopied us vs → uids vs ≡ uids us
uids_copied [] [] h = refl
uids_copied [] (v ∷ vs) h = absurd h
uids_copied (u ∷ us) [] h = absurd h
uids_copied (u ∷ us) (v ∷ vs) h = λ i. h.0.0 i ∷ uids_copied us vs h.1 i

found_copied : (es ds : List (EntityUID × ℕ)) (u : Uid) → AllZip IsPlaceCopied es ds → found_at ds u ≡ found_at es u
found_copied [] [] u h = refl
found_copied [] (d ∷ ds) u h = absurd h
found_copied (e ∷ es) [] u h = absurd h
found_copied (e ∷ es) (d ∷ ds) u h = λ i. cond (uid_eq u (h.0.0.0 i)) (Some (h.0.1 i)) (found_copied es ds u h.1 i)

pub led_copied : (us vs : List EntityUID) (es ds : List (EntityUID × ℕ)) → AllZip IsUidCopied us vs → AllZip IsPlaceCopied es ds → Leads es us → Leads ds vs
led_copied us vs es ds h k led q = found_copied es ds (uid_of q) k ∙ led q ∙ ap (λ ws. place_in ws (uid_of q)) (sym (uids_copied us vs h))
