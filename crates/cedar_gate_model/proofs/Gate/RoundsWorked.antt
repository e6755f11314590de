-- A run of the policy at level 2 over its store: two rounds, and the answer.
use Rattle.std.proofs.Common.{◌≡◌, ◌↔◌, ◌&&◌, ◌||◌, ⊎_elim, Bool, true, false, not, List, [], ◌∷◌, Option, Some, None, refl, sym, subst}
use Rattle.std.specs.Prelude.{Contains, codes, is_some}
use Rattle.std.specs.List.{list_all, list_any}
use Rattle.std.specs.Map.{keys_of}
use Rattle.std.specs.Str.{bytes_eq}
use Rattle.cedar_expr_model.specs.Uid.{Uid, uid_eq}
use Rattle.cedar_expr_model.specs.Repeats.{repeated}
use Rattle.cedar_expr_model.specs.Value.{V}
use Rattle.cedar_expr_model.proofs.Equality.{uid_eq-Decides}
use Rattle.cedar_expr_model.proofs.Lists.{all_each, both_hold, contains_none, found-Decides}
use Rattle.cedar_store_model.specs.World.{Entity}
use Rattle.cedar_schema_model.specs.Conforming.{entity_conforms}
use Rattle.cedar_schema_model.proofs.Decls.Conforming.{entity_conforms-Decides, request_conforms-Decides}
use Rattle.cedar_schema_model.proofs.Decls.Descent.{either_holds}
use Rattle.cedar_typechecker_model.specs.Worked.{user_a, doc_d}
use Rattle.cedar_gate_model.specs.Moment.{request_of}
use Rattle.cedar_typechecker_model.specs.Slice.{slice}
use Rattle.cedar_gate_model.specs.Session as session
use Rattle.cedar_gate_model.specs.Session.{Setup, State, at_start, known_now, world_now, IsWantedNow, NothingIsWanted, IsWantedList, HasOpenName, OpenRefusal, quote_in_name, name_of_variable, OpenFault, IsWrong, Supplied, SupplyRefusal, SupplyFault, not_wanted, lacking, wrong_entity, AnswerRefusal, AnswerFault, not_bound, still_wanted, not_conforming}
use Rattle.cedar_gate_model.specs.Transcript.{round}
use Rattle.cedar_gate_model.specs.Runs.{answered, supplied_by, IsRoundNow, with_asked, MayDecide, Runs}
use Rattle.cedar_gate_model.specs.WorkedGate.{user_b, p0, loading, p0_allows}
use Rattle.cedar_gate_model.proofs.Gate.Computed.{no_entry_open, none_open}
use Rattle.cedar_gate_model.proofs.Gate.Slices.{slice_is_listed}

clash : {b : Bool} → b ≡ true → b ≡ false → ⊥
clash e f = cc

turned : (b : Bool) → not b ≡ true → b ≡ false
turned true e = cc
turned false e = refl

-- rounds that are computed
module _ (x : Setup) where
  -- what is in the slice now
  abbrev slice_at : State → List Uid
  slice_at s = slice x.schema x.level (known_now x s)

  -- these are in the slice and weren't asked for, and what is in the slice and isn't one of them was asked for
  pub wanted_exactly : (s : State) (uids : List Uid) → list_all (λ u. list_any (uid_eq u) (slice_at s) && not (list_any (uid_eq u) s.asked)) uids ≡ true
      → list_all (λ u. list_any (uid_eq u) uids || list_any (uid_eq u) s.asked) (slice_at s) ≡ true → (u : Uid) → Contains uids u ↔ IsWantedNow x s u
  wanted_exactly s uids h k u = (
    λ i. (
        let p = both_hold (list_any (uid_eq u) (slice_at s)) (not (list_any (uid_eq u) s.asked)) (all_each (λ v. list_any (uid_eq v) (slice_at s) && not (list_any (uid_eq v) s.asked)) uids h u i) in (
          (slice_is_listed x.schema x.level (known_now x s) u).0 ((found-Decides uid_eq uid_eq-Decides u (slice_at s)).0 p.0),
          λ j. clash ((found-Decides uid_eq uid_eq-Decides u s.asked).1 j) (turned (list_any (uid_eq u) s.asked) p.1),
        )),
    λ i. ⊎_elim (λ p. (found-Decides uid_eq uid_eq-Decides u uids).0 p) (λ p. absurd (i.1 ((found-Decides uid_eq uid_eq-Decides u s.asked).0 p)))
        (either_holds (list_any (uid_eq u) uids) (list_any (uid_eq u) s.asked)
        (all_each (λ v. list_any (uid_eq v) uids || list_any (uid_eq v) s.asked) (slice_at s) k u ((slice_is_listed x.schema x.level (known_now x s) u).1 i.0))),
  )

  -- an entity under its own uid that conforms
  abbrev pub is_right : Uid × Option (Uid × Entity V) → Bool
  is_right (u, None) = true
  is_right (u, Some e) = uid_eq u e.0 && entity_conforms x.schema e.0 e.1

  right_one : (p : Uid × Option (Uid × Entity V)) → is_right p ≡ true → IsWrong x.schema p → ⊥
  right_one (u, None) e h = h
  right_one (u, Some d) e h =
      let k = both_hold (uid_eq u d.0) (entity_conforms x.schema d.0 d.1) e in
      ⊎_elim (λ f. clash k.0 f) (λ n. n ((entity_conforms-Decides x.schema d.0 d.1).0 k.1)) h

  pub takes : (s : State) (uids : List Uid) → ((u : Uid) → Contains uids u ↔ IsWantedNow x s u) → keys_of (supplied_by x uids) ≡ uids → is_some (repeated uid_eq (keys_of (supplied_by x uids))) ≡ false
      → list_all is_right (supplied_by x uids) ≡ true → (f : SupplyRefusal) → SupplyFault x s (supplied_by x uids) f → ⊥
  takes s uids exact keys once right not_wanted h = h.2 ((exact h.0).0 (subst (λ us. Contains us h.0) keys h.1))
  takes s uids exact keys once right lacking h = h.2 (subst (λ us. Contains us h.0) (sym keys) ((exact h.0).1 h.1))
  takes s uids exact keys once right session.repeated h = clash h once
  takes s uids exact keys once right wrong_entity h = right_one h.0 (all_each is_right (supplied_by x uids) right h.0 h.1) h.2

-- the moments of the run
abbrev second : State
second = with_asked at_start (doc_d ∷ user_a ∷ [])

abbrev last : State
last = with_asked second (user_b ∷ [])

first_round : IsRoundNow loading at_start (doc_d ∷ user_a ∷ [])
first_round =
    let exact = wanted_exactly loading at_start (doc_d ∷ user_a ∷ []) refl refl in
    record {
      some_wanted = λ e. cc;
      wanted = record { in_order = refl; exact = exact };
      taken = takes loading at_start (doc_d ∷ user_a ∷ []) exact refl refl refl;
    }

second_round : IsRoundNow loading second (user_b ∷ [])
second_round =
    let exact = wanted_exactly loading second (user_b ∷ []) refl refl in
    record {
      some_wanted = λ e. cc;
      wanted = record { in_order = refl; exact = exact };
      taken = takes loading second (user_b ∷ []) exact refl refl refl;
    }

nothing_left : NothingIsWanted loading last
nothing_left u h = contains_none u ((wanted_exactly loading last [] refl refl u).1 h)

answers_now : (f : AnswerRefusal) → AnswerFault loading last f → ⊥
answers_now not_bound h = none_open h.0 _ (no_entry_open (bytes_eq h.0 (codes "principal")) (bytes_eq h.0 (codes "action")) (bytes_eq h.0 (codes "resource")) _ _ _) h.1
answers_now still_wanted h = nothing_left h.0 h.1
answers_now not_conforming h = h.1 ((request_conforms-Decides loading.schema (request_of (world_now loading last))).0 refl)

opens : (f : OpenRefusal) → OpenFault loading.start f → ⊥
opens quote_in_name h = contains_none h.0 h.1
opens name_of_variable h = contains_none h.0 h.1

pub two_rounds : Runs (MayDecide loading (p0 ∷ [])) loading (p0 ∷ []) [] (round (doc_d ∷ user_a ∷ []) ∷ round (user_b ∷ []) ∷ []) (answered p0_allows)
two_rounds = (opens, (first_round, (second_round, (nothing_left, answers_now, refl))))
