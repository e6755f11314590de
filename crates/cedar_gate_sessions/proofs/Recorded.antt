-- What a session has recorded of the uids that were asked for and have no entity.
use Rattle.std.proofs.Common.{◌≡◌, ◌∙◌, ◌||◌, ◌&&◌, ◌++◌, ◌∷◌, [], Bool, true, false, List, map, Contains, Option, Some, None, refl, sym, ap, subst, ⊎_elim}
use Rattle.std.proofs.Math.Bool.{or-false, or-true, or_assoc}
use Rattle.std.proofs.lemmas.List.Folds.{list_any-append}
use Rattle.std.specs.List.{list_all}
use Rattle.std.specs.Prelude.{is_some}
use Rattle.cedar_expr_model.specs.Uid.{Uid, uid_eq}
use Rattle.cedar_expr_model.specs.Value.{V}
use Rattle.cedar_expr_model.proofs.Equality.{uid_eq-Decides}
use Rattle.cedar_expr_model.proofs.Lists.{both_hold, found-Decides, map_has}
use Rattle.cedar_expr_names.specs.Views.{uid_of}
use Rattle.cedar_expr_names.specs.declared.entity.EntityUID.{EntityUID}
use Rattle.cedar_store_entities.specs.Refusals.{is_absent, is_present}
use Rattle.cedar_store_entities.specs.Stores.{store_seen}
use Rattle.cedar_store_entities.specs.Views.{entity_uid, entity_of, entity_pair}
use Rattle.cedar_store_entities.specs.declared.entity.Entity.{Entity}
use Rattle.cedar_store_model.specs.Store.{Store, some_of}
use Rattle.cedar_schema_model.specs.Conforming.{entity_conforms}
use Rattle.cedar_schema_model.specs.Schema.{Schema}
use Rattle.cedar_gate_wanted.specs.Supplying.{IsFilled}
use Rattle.cedar_gate_sessions.specs.Entities.{AddsAnswers, IsSameStore, is_among, missing_uids, supplied_entities, supplied_of, supplied_uids}
use Rattle.cedar_gate_sessions.specs.Loaded.{is_right}
use Rattle.cedar_gate_sessions.specs.Sessions.{IsRecorded, loaded_in, was_asked}
use Rattle.cedar_gate_sessions.specs.declared.session.SessionAt.{SessionAt}
use Rattle.cedar_gate_sessions.proofs.Parts.{map_both}

-- whether one of the entities is of the uid
abbrev is_there : List Entity → Uid → Bool
is_there es u = is_present (some_of (map entity_pair es) []) u

neither : (a b : Bool) → (a || b) ≡ false → (a ≡ false) × (b ≡ false)
neither false b e = (refl, e)
neither true b e = absurd (cc)

module _ (s : Schema) (u : Uid) where
  -- where no entity of the uid is supplied, and each entity is under its uid, it is one of those without an entity if it is supplied at all
  pub missing_is : (ps : List (EntityUID × Option Entity)) → list_all (is_right s) (supplied_of ps) ≡ true → is_there (supplied_entities ps) u ≡ false → is_among (missing_uids ps) u ≡ is_among (supplied_uids ps) u
  missing_is [] right none = refl
  missing_is ((v, None) ∷ ps) right none = ap (λ b. uid_eq u (uid_of v) || b) (missing_is ps right none)
  missing_is ((v, Some e) ∷ ps) right none =
      let parts = both_hold (uid_eq (uid_of v) (entity_uid e) && entity_conforms s (entity_uid e) (entity_of e)) (list_all (is_right s) (supplied_of ps)) right in
      let same : uid_of v ≡ entity_uid e = (uid_eq-Decides (uid_of v) (entity_uid e)).0 (both_hold (uid_eq (uid_of v) (entity_uid e)) (entity_conforms s (entity_uid e) (entity_of e)) parts.0).0 in
      let other = neither (uid_eq u (entity_uid e)) (is_there (supplied_entities ps) u) none in
      missing_is ps parts.1 other.1 ∙ ap (λ b. b || is_among (supplied_uids ps) u) (sym (ap (uid_eq u) same ∙ other.0))

module _ (u : Uid) where
  -- what stands at a uid after pairs were put in
  pub asked_now : {X : Type 0} (ps : List (Uid × X)) (f g : Uid → Option X) → IsFilled ps f g → (is_some (f u) || is_among (map (λ p. p.0) ps) u) ≡ is_some (g u)
  asked_now {X = X} ps f g filled = ⊎_elim there elsewhere (filled.filled u)
    where
      keys : List Uid
      keys = map (λ p. p.0) ps

      none : (b : Bool) → is_among keys u ≡ b → (Contains keys u → ⊥) → b ≡ false
      none true e apart = absurd (apart ((found-Decides uid_eq uid_eq-Decides u keys).0 e))
      none false e apart = refl

      there : (r : X) × Contains ps (u, r) × (g u ≡ Some r) → (is_some (f u) || is_among keys u) ≡ is_some (g u)
      there h = ap (λ b. is_some (f u) || b) ((found-Decides uid_eq uid_eq-Decides u keys).1 (map_has (λ (p : Uid × X). p.0) ps (u, h.0) h.1)) ∙ or-true (is_some (f u)) ∙ sym (ap is_some h.2)

      elsewhere : (Contains keys u → ⊥) × (g u ≡ f u) → (is_some (f u) || is_among keys u) ≡ is_some (g u)
      elsewhere h = ap (λ b. is_some (f u) || b) (none (is_among keys u) refl h.0) ∙ or-false (is_some (f u)) ∙ sym (ap is_some h.1)

  there_both : (es fs : List Entity) → is_there (es ++ fs) u ≡ (is_there es u || is_there fs u)
  there_both [] fs = refl
  there_both (e ∷ es) fs = ap (λ b. uid_eq u (entity_uid e) || b) (there_both es fs) ∙ sym (or_assoc (uid_eq u (entity_uid e)) (is_there es u) (is_there fs u))

  pub there_in_both : (es fs : List Entity) → is_there (es ++ fs) u ≡ false → (is_there es u ≡ false) × (is_there fs u ≡ false)
  there_in_both es fs none = neither (is_there es u) (is_there fs u) (sym (there_both es fs) ∙ none)

module _ {G : Type 0} (d e : SessionAt G) where
  -- after a supply
  pub recorded_after : (s : Schema) (ps : List (EntityUID × Option Entity)) → list_all (is_right s) (supplied_of ps) ≡ true → AddsAnswers (supplied_entities ps) (missing_uids ps) d.loaded e.loaded
      → loaded_in e ≡ loaded_in d ++ supplied_entities ps → ((u : Uid) → (was_asked d u || is_among (supplied_uids ps) u) ≡ was_asked e u) → IsRecorded d → IsRecorded e
  recorded_after s ps right added kept asked before = record {
    extent = (added.recorded).extent ∙ before.extent;
    entities = refl;
    absent = λ u none.
        let apart = there_in_both u (loaded_in d) (supplied_entities ps) (ap (λ es. is_there es u) (sym kept) ∙ none) in
        (added.recorded).absent u none
        ∙ ap (λ b. b || is_among (missing_uids ps) u) (before.absent u apart.0)
        ∙ ap (λ b. was_asked d u || b) (missing_is s u ps right apart.1)
        ∙ asked u;
  }

  -- where the stores are the same, and the same was asked for
  pub recorded_same : IsSameStore d.loaded e.loaded → ((u : Uid) → was_asked e u ≡ was_asked d u) → IsRecorded d → IsRecorded e
  recorded_same same asked before = record {
    extent = ap (λ (s : Store). s.extent) same.seen ∙ before.extent;
    entities = refl;
    absent = λ u none. ap (λ s. is_absent s u) same.seen ∙ before.absent u (ap (λ es. is_there es u) (sym same.entities) ∙ none) ∙ sym (asked u);
  }
