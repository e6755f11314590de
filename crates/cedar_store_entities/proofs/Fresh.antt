-- Entities that are added behind others, unless their uids are there.
use Rattle.std.proofs.Common.{◌≡◌, ℕ, ◌≤◌, Bool, true, false, cond, List, [], ◌∷◌, ◌++◌, map, length, take, refl, sym, ap, ◌∙◌, append_assoc, arith}
use Rattle.std.proofs.lemmas.List.{append-nil, map-append, length-take, take-append-le}
use Rattle.std.specs.List.{list_any}
use Rattle.cedar_expr_model.specs.Uid.{uid_eq}
use Rattle.cedar_expr_model.proofs.Repeating.{distinct_apart}
use Rattle.cedar_store_model.specs.Store.{are_distinct}
use Rattle.cedar_store_entities.specs.Places.{are_apart}
use Rattle.cedar_store_entities.specs.Stores.{with_new}
use Rattle.cedar_store_entities.specs.Views.{entity_uid, entity_pair}
use Rattle.cedar_store_entities.specs.declared.entity.Entity.{Entity}
use Rattle.cedar_store_entities.proofs.Gathered.{listed_uids}
use Rattle.cedar_store_entities.proofs.Led.{apart_distinct, not_among}

-- those of which no uid is repeated are all added
fresh : (es fs : List Entity) (f : Entity) → are_distinct (map entity_pair (es ++ f ∷ fs)) ≡ true → list_any (uid_eq (entity_uid f)) (map entity_uid es) ≡ false
fresh es fs f d =
    let apart = ap are_apart (sym (listed_uids (es ++ f ∷ fs) ∙ map-append entity_uid es (f ∷ fs))) ∙ d in
    not_among (map entity_uid es) (entity_uid f) (distinct_apart (map entity_uid es) (entity_uid f) (map entity_uid fs) (apart_distinct _ apart))

pub fresh_are_appended : (es fs : List Entity) → are_distinct (map entity_pair (es ++ fs)) ≡ true → with_new es fs ≡ es ++ fs
fresh_are_appended es [] d = sym (append-nil es)
fresh_are_appended es (f ∷ fs) d =
    ap (λ b. with_new (cond b es (es ++ f ∷ [])) fs) (fresh es fs f d)
    ∙ fresh_are_appended (es ++ f ∷ []) fs (ap (λ xs. are_distinct (map entity_pair xs)) (append_assoc es (f ∷ []) fs) ∙ d)
    ∙ append_assoc es (f ∷ []) fs

-- what stands before them stays
pub no_longer : (n : ℕ) (old now : List Entity) → length old ≡ n → take n now ≡ old → n ≤ length now
no_longer n old now l k = omega (arith, length-take n now, ap length k)

pub kept_before : (old now : List Entity) (f : Entity) → take (length old) now ≡ old → take (length old) (with_new now (f ∷ [])) ≡ old
kept_before old now f k = go (list_any (uid_eq (entity_uid f)) (map entity_uid now)) ∙ k
  where
    go : (t : Bool) → take (length old) (cond t now (now ++ f ∷ [])) ≡ take (length old) now
    go true = refl
    go false = take-append-le (length old) now (f ∷ []) (no_longer (length old) old now refl k)
