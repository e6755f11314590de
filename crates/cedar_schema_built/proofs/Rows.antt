-- The ancestors of an action as its entity records them.
use Rattle.std.proofs.Common.{◌≡◌, Bool, true, false, not, cond, ◌||◌, ◌&&◌, List, [], ◌∷◌, ◌++◌, map, refl, sym, ap, ◌∙◌, subst, inl, inr, ⊎_elim, append_assoc, append-nil, Result, Ok, Err}
use Rattle.std.specs.Prelude.{Contains, IfOk, if◌then◌else◌}
use Rattle.std.specs.List.{list_any, list_all, filter}
use Rattle.std.proofs.lemmas.Bool.{true≢false}
use Rattle.std.proofs.lemmas.List.Folds.{list_all-append}
use Rattle.cedar_expr_model.specs.Uid.{Uid, uid_eq}
use Rattle.cedar_expr_model.proofs.Equality.{uid_eq-Decides}
use Rattle.cedar_expr_model.proofs.Lists.{contains_head, contains_tail, filter_only, map_from, map_has}
use Rattle.cedar_schema_model.specs.BagLaws.{HasTwice}
use Rattle.cedar_store_entities.specs.Recorded.{Kin, uids_of_kin, all_recorded, with_indirect, with_parents, with_indirects}
use Rattle.cedar_schema_model.specs.Kept.{KeptAction, Kept, kept_action_ancestors, kept_as_entity}
use Rattle.cedar_schema_built.specs.Entities.{recorded_entity, are_indirect}

-- of names that stand once, those of some stand once
filtered_once : {A S : Type 0} (name : A → S) (p : A → Bool) (xs : List A) → (HasTwice (map name xs) → ⊥) → HasTwice (map name (filter p xs)) → ⊥
filtered_once name p [] once t = t
filtered_once name p (x ∷ xs) once t = go (p x) (filtered_once name p xs (λ u. once (inr u))) t
  where
    kept : Contains (map name (filter p xs)) (name x) → Contains (map name xs) (name x)
    kept c = let f = map_from name (filter p xs) (name x) c in subst (Contains (map name xs)) f.2 (map_has name xs f.0 (filter_only p xs f.0 f.1).0)

    go : (b : Bool) → (HasTwice (map name (filter p xs)) → ⊥) → HasTwice (map name (cond b (x ∷ filter p xs) (filter p xs))) → ⊥
    go true rest t = ⊎_elim (λ c. once (inl (kept c))) rest t
    go false rest t = rest t

-- uids that stand once, and aren't recorded, are recorded one after the other
all_recorded_once : (us vs : List Uid) → ((v : Uid) → Contains vs v → list_any (uid_eq v) us ≡ false) → (HasTwice vs → ⊥) → all_recorded us vs ≡ (us ++ vs)
all_recorded_once us [] fresh once = sym (append-nil us)
all_recorded_once us (v ∷ vs) fresh once =
    ap (λ t. all_recorded (if t then us else us ++ v ∷ []) vs) (fresh v (contains_head v vs))
    ∙ all_recorded_once (us ++ v ∷ []) vs later (λ t. once (inr t))
    ∙ append_assoc us (v ∷ []) vs
  where
    other : (us : List Uid) (w : Uid) → list_any (uid_eq w) us ≡ false → uid_eq w v ≡ false → list_any (uid_eq w) (us ++ v ∷ []) ≡ false
    other [] w e f = ap (λ t. t || false) f
    other (u ∷ us) w e f = more (uid_eq w u) e (λ k. other us w k f)
      where
        more : (t : Bool) → (t || list_any (uid_eq w) us) ≡ false → (list_any (uid_eq w) us ≡ false → list_any (uid_eq w) (us ++ v ∷ []) ≡ false) → (t || list_any (uid_eq w) (us ++ v ∷ [])) ≡ false
        more true e k = absurd (true≢false e)
        more false e k = k e

    apart : (w : Uid) → Contains vs w → (t : Bool) → uid_eq w v ≡ t → uid_eq w v ≡ false
    apart w c true e = absurd (once (inl (subst (Contains vs) ((uid_eq-Decides w v).0 e) c)))
    apart w c false e = e

    later : (w : Uid) → Contains vs w → list_any (uid_eq w) (us ++ v ∷ []) ≡ false
    later w c = other us w (fresh w (contains_tail v vs w c)) (apart w c (uid_eq w v) refl)

-- an action as an entity
pub entity_recorded : (k : Kept) (w : Uid) → (HasTwice (map (λ (a : KeptAction). a.uid) k.actions) → ⊥) → recorded_entity w (kept_action_ancestors k w) ≡ (w, kept_as_entity k w)
entity_recorded k w once =
    ap (λ us. (w, record { attributes = []; tags = []; ancestors = us }))
    (all_recorded_once [] (kept_action_ancestors k w) (λ v c. refl) (filtered_once (λ (a : KeptAction). a.uid) (λ a. list_any (uid_eq w) a.descendants) k.actions once))

-- none of these ancestors is recorded as a parent
indirect_more : (ks : Kin) (u : Uid) → are_indirect ks ≡ true → are_indirect (with_indirect ks u) ≡ true
indirect_more ks u h = go (list_any (uid_eq u) (uids_of_kin ks))
  where
    go : (b : Bool) → are_indirect (if b then ks else ks ++ (u, false) ∷ []) ≡ true
    go true = h
    go false = list_all-append (λ (k : Uid × Bool). not k.1) ks ((u, false) ∷ []) ∙ ap (λ b. b && (true && true)) h

indirects_more : (ks : Kin) (us : List Uid) → are_indirect ks ≡ true → are_indirect (with_indirects ks us) ≡ true
indirects_more ks [] h = h
indirects_more ks (u ∷ us) h = indirects_more (with_indirect ks u) us (indirect_more ks u h)

pub no_parents : (ks : Kin) (us vs : List Uid) → ks ≡ with_parents (with_indirects [] us) vs → vs ≡ [] → are_indirect ks ≡ true
no_parents ks us vs h e = ap are_indirect (h ∙ ap (with_parents (with_indirects [] us)) e) ∙ indirects_more [] us refl

-- one more of which it holds
pub all_more : {X : Type 0} (p : X → Bool) (xs : List X) (x : X) → list_all p xs ≡ true → p x ≡ true → list_all p (xs ++ x ∷ []) ≡ true
all_more p xs x h e = list_all-append p xs (x ∷ []) ∙ (λ i. h i && (e i && true))

-- what follows of what is made
pub ok_more : {A B : Type 0} (P Q : A → Type 0) (r : Result A B) → ((x : A) → P x → Q x) → IfOk r P → IfOk r Q
ok_more P Q (Ok x) f h = f x h
ok_more P Q (Err e) f h = tt
