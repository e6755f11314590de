-- Stores with absences recorded.
use Rattle.std.proofs.Common.{◌≡◌, ◌∙◌, ◌||◌, ℕ, Bool, true, false, cond, List, [], ◌∷◌, ◌++◌, length, map, take, refl, sym, ap, subst}
use Rattle.std.proofs.Math.Bool.{or-false, or_assoc}
use Rattle.std.proofs.Math.Seq.{take-append_seam}
use Rattle.std.proofs.lemmas.List.{append_assoc, append-nil}
use Rattle.std.proofs.lemmas.List.Folds.{list_any-append}
use Rattle.std.specs.List.{list_any}
use Rattle.cedar_expr_model.specs.Uid.{Uid, uid_eq}
use Rattle.cedar_expr_model.proofs.Equality.{uid_eq-Decides}
use Rattle.cedar_store_entities.specs.Refusals.{is_absent, is_present}
use Rattle.cedar_store_entities.specs.Stores.{entities_kept, store_seen, store_made, with_new}
use Rattle.cedar_store_entities.specs.Views.{entity_pair, entity_uid, kept_pair}
use Rattle.cedar_store_entities.specs.declared.entities.Entities as stored
use Rattle.cedar_store_entities.specs.declared.entity.Entity.{Entity}
use Rattle.cedar_store_model.specs.Store.{Store, with_absence}
use Rattle.cedar_gate_sessions.specs.Entities.{AddsAnswers, Grows, IsGrown, IsSameStore, RecordsAbsences, is_among}

-- a test that one uid passes makes no difference where it is passed by each that is that uid
holds_already : (f : Uid → Bool) (u v : Uid) → f u ≡ true → f v ≡ (f v || uid_eq v u)
holds_already f u v is = go (uid_eq v u) refl
  where
    or_true : (b : Bool) → b ≡ true → b ≡ (b || true)
    or_true true e = refl
    or_true false e = e

    go : (b : Bool) → uid_eq v u ≡ b → f v ≡ (f v || b)
    go true e = or_true (f v) (ap f ((uid_eq-Decides v u).0 e) ∙ is)
    go false e = sym (or-false (f v))

-- nor one that is passed by none
never_so : (f g : Uid → Bool) (u v : Uid) → g u ≡ true → g v ≡ false → f v ≡ (f v || uid_eq v u)
never_so f g u v is none = go (uid_eq v u) refl
  where
    go : (b : Bool) → uid_eq v u ≡ b → f v ≡ (f v || b)
    go true e = let lie : false ≡ true = sym none ∙ ap g ((uid_eq-Decides v u).0 e) ∙ is in absurd (cc)
    go false e = sym (or-false (f v))

-- a list that stays, and one that grows twice
pub grows_not : {A : Type 0} (xs : List A) → Grows xs xs
grows_not xs = ([], sym (append-nil xs))

pub grows_on : {A : Type 0} (xs ys zs : List A) → Grows xs ys → Grows ys zs → Grows xs zs
grows_on xs ys zs g h = (g.0 ++ h.0, h.1 ∙ ap (λ l. l ++ h.0) g.1 ∙ append_assoc xs g.0 h.0)

pub stays : (old new : Store) → new ≡ old → Grows old.absent new.absent
stays old new e = ([], ap (λ (s : Store). s.absent) e ∙ sym (append-nil old.absent))

-- a store that has nothing made has no entity
pub none_kept : (s : stored.Entities) → store_made s ≡ [] → entities_kept s ≡ []
none_kept s e = go (entities_kept s) e
  where
    go : (es : List Entity) → map kept_pair es ≡ [] → es ≡ []
    go [] h = refl
    go (f ∷ fs) h = absurd (cc)

-- entities that are added stand behind those that are there
pub new_behind : (es fs : List Entity) → Grows es (with_new es fs)
new_behind es [] = grows_not es
new_behind es (f ∷ fs) = by_there (list_any (uid_eq (entity_uid f)) (map entity_uid es)) (new_behind es fs) (new_behind (es ++ f ∷ []) fs)
  where
    by_there : (b : Bool) → Grows es (with_new es fs) → Grows (es ++ f ∷ []) (with_new (es ++ f ∷ []) fs) → Grows es (with_new (cond b es (es ++ f ∷ [])) fs)
    by_there true stays more = stays
    by_there false stays more = grows_on es (es ++ f ∷ []) (with_new (es ++ f ∷ []) fs) (f ∷ [], refl) more

module _ (old new : Store) (u : Uid) where
  abbrev Recorded : Type 0
  Recorded = RecordsAbsences (λ v. uid_eq v u) old new

  -- one more is recorded
  pub now_absent : new ≡ with_absence old u → Recorded
  now_absent e = record {
    extent = ap (λ (s : Store). s.extent) e;
    entities = ap (λ (s : Store). s.entities) e;
    absent = λ v none. ap (λ s. is_absent s v) e ∙ list_any-append (uid_eq v) old.absent (u ∷ []) ∙ ap (λ b. is_absent old v || b) (or-false (uid_eq v u));
  }

  -- it is recorded already
  pub still_absent : new ≡ old → is_absent old u ≡ true → Recorded
  still_absent e is = record {
    extent = ap (λ (s : Store). s.extent) e;
    entities = ap (λ (s : Store). s.entities) e;
    absent = λ v none. ap (λ s. is_absent s v) e ∙ holds_already (is_absent old) u v is;
  }

  -- there is an entity
  pub still_present : new ≡ old → is_present old u ≡ true → Recorded
  still_present e is = record {
    extent = ap (λ (s : Store). s.extent) e;
    entities = ap (λ (s : Store). s.entities) e;
    absent = λ v none. ap (λ s. is_absent s v) e ∙ never_so (is_absent old) (is_present old) u v is none;
  }

-- The absences of the list are recorded, once those of the rest are: that is so at the start, after each, and at the end.
pub record IsRecording (lacks : Uid → Bool) (old now : Store) (rest : List Uid) : Type 0 where
  pub extent : now.extent ≡ old.extent
  pub entities : now.entities ≡ old.entities
  pub absent : (u : Uid) → is_present old u ≡ false → (is_absent now u || list_any (uid_eq u) rest) ≡ (is_absent old u || lacks u)

pub recording_starts : (lacks : Uid → Bool) (old : Store) (us : List Uid) → ((u : Uid) → list_any (uid_eq u) us ≡ lacks u) → IsRecording lacks old old us
recording_starts lacks old us is = record { extent = refl; entities = refl; absent = λ u none. ap (λ b. is_absent old u || b) (is u) }

pub recording_goes : (lacks : Uid → Bool) (old now next : Store) (u : Uid) (us rest : List Uid) → us ≡ u ∷ rest → RecordsAbsences (λ v. uid_eq v u) now next → IsRecording lacks old now us → IsRecording lacks old next rest
recording_goes lacks old now next u us rest is one before = record {
  extent = one.extent ∙ before.extent;
  entities = one.entities ∙ before.entities;
  absent = λ v none.
      ap (λ b. b || list_any (uid_eq v) rest) (one.absent v (ap (λ es. is_present (record old { entities = es }) v) before.entities ∙ none))
      ∙ or_assoc (is_absent now v) (uid_eq v u) (list_any (uid_eq v) rest)
      ∙ ap (λ zs. is_absent now v || list_any (uid_eq v) zs) (sym is)
      ∙ before.absent v none;
}

pub recording_ends : (lacks : Uid → Bool) (old now : Store) (us : List Uid) → us ≡ [] → IsRecording lacks old now us → RecordsAbsences lacks old now
recording_ends lacks old now us is before = record {
  extent = before.extent;
  entities = before.entities;
  absent = λ v none. sym (or-false (is_absent now v)) ∙ ap (λ zs. is_absent now v || list_any (uid_eq v) zs) (sym is) ∙ before.absent v none;
}

-- the first of a list that grew are the list
first_of : {A : Type 0} (xs ys : List A) (n : ℕ) → Grows xs ys → n ≡ length xs → take n ys ≡ xs
first_of xs ys n g e = ap (λ k. take k ys) e ∙ ap (take (length xs)) g.1 ∙ take-append_seam xs g.0

-- a store that grew, reset to what it was
pub same_again : (old grown new : stored.Entities) (n m : ℕ) → IsGrown old grown → n ≡ length (entities_kept old) → m ≡ length (store_seen old).absent
    → entities_kept new ≡ take n (entities_kept grown) → (store_seen new).absent ≡ take m (store_seen grown).absent → (store_seen new).extent ≡ (store_seen grown).extent → IsSameStore old new
same_again old grown new n m g entities absences kept absent extent =
    let same : entities_kept new ≡ entities_kept old = kept ∙ first_of (entities_kept old) (entities_kept grown) n g.entities entities in
    let none : (store_seen new).absent ≡ (store_seen old).absent = absent ∙ first_of (store_seen old).absent (store_seen grown).absent m g.absent absences in
    let all : (store_seen new).extent ≡ (store_seen old).extent = extent ∙ g.extent in
    record {
      entities = same;
      seen = λ i. record { extent = all i; entities = map entity_pair (same i); absent = none i };
    }

-- entities are added, and then absences recorded
module _ (es : List Entity) (old mid new : stored.Entities) (extent : (store_seen mid).extent ≡ (store_seen old).extent) (absent : (store_seen mid).absent ≡ (store_seen old).absent) (stays : entities_kept new ≡ entities_kept mid) where
  pub both_added : (missing : List Uid) → entities_kept mid ≡ with_new (entities_kept old) es → RecordsAbsences (is_among missing) (store_seen mid) (store_seen new) → AddsAnswers es missing old new
  both_added missing kept recorded = record {
    kept = stays ∙ kept;
    recorded = subst (λ s. RecordsAbsences (is_among missing) s (store_seen new)) (λ i. record { extent = extent i; entities = map entity_pair (sym stays i); absent = absent i }) recorded;
  }

  pub both_grown : Grows (entities_kept old) (entities_kept mid) → Grows (store_seen mid).absent (store_seen new).absent → (store_seen new).extent ≡ (store_seen mid).extent → IsGrown old new
  both_grown more recorded same = record {
    entities = subst (Grows (entities_kept old)) (sym stays) more;
    absent = subst (λ us. Grows us (store_seen new).absent) absent recorded;
    extent = same ∙ extent;
  }
