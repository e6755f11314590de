-- What the answer of a run rests on: the slice alone; and that a decision is owed where all is bound and loaded.
use Rattle.std.proofs.Common.{◌≡◌, ◌∙◌, Bool, true, false, ◌||◌, List, inl, inr, ⊎_elim, refl, sym, subst, if◌then◌else◌}
use Rattle.std.specs.Prelude.{Contains}
use Rattle.std.specs.List.{list_any}
use Rattle.cedar_expr_model.specs.Uid.{Uid, uid_eq}
use Rattle.cedar_expr_model.specs.Value.{V}
use Rattle.cedar_expr_model.proofs.Lists.{hold_left, hold_right, found-Decides}
use Rattle.cedar_expr_model.proofs.Equality.{uid_eq-Decides}
use Rattle.cedar_store_model.specs.Outcome.{Res, err}
use Rattle.cedar_store_model.specs.World.{World, Found, missing}
use Rattle.cedar_store_model.specs.Laws.{with_store}
use Rattle.cedar_store_model.specs.Policy.{Policy, condition}
use Rattle.cedar_store_model.specs.Answer.{Answer, PolicyError, with_slots, PolicyMeans, answer_of}
use Rattle.cedar_store_model.proofs.Conditions.{policies_mean_truth}
use Rattle.cedar_store_model.proofs.Meaning.{one_outcome}
use Rattle.cedar_store_model.proofs.Reports.{errors_are_those}
use Rattle.cedar_schema_model.specs.Schema.{declares_action}
use Rattle.cedar_typechecker_model.specs.Soundness.{IsExpected, IsGood}
use Rattle.cedar_schema_model.specs.Types.{any_bool, bool_type}
use Rattle.cedar_gate_model.specs.Moment.{Completes}
use Rattle.cedar_gate_model.specs.Session.{State, at_start, world_now, whole_store, OpenRefusal, OpenFault, AnswerRefusal, AnswerFault, IsWantedNow}
use Rattle.cedar_typechecker_model.specs.Slice.{InSlice}
use Rattle.cedar_typechecker_model.specs.Reach.{IsInReach}
use Rattle.cedar_gate_model.specs.SliceSoundness.{IsFitFor}
use Rattle.cedar_gate_model.specs.Transcript as transcript
use Rattle.cedar_gate_model.specs.Transcript.{round, bound, decided}
use Rattle.cedar_gate_model.specs.Runs.{answered, opening_refused, MayDecide}
use Rattle.cedar_gate_model.specs.RunLaws.{bindings_in}
use Rattle.cedar_gate_model.specs.RunsAsk.{end_state}
use Rattle.cedar_gate_model.specs.RunsAnswer.{Course, session_of, IsAdmitted, IsProper, MayRun, loaded_world, with_unknowns}
use Rattle.cedar_gate_model.proofs.Gate.Reach.{completions_fit, accepted_are_sound, only_the_slice_answers}
use Rattle.cedar_gate_model.proofs.Gate.Slices.{near_kept}
use Rattle.cedar_gate_model.proofs.Runs.Completing.{Stands, stands_at_start, stands_after, completed}
use Rattle.cedar_gate_model.proofs.Runs.Deciding.{unknowns_say_nothing, none_has_unknowns, leaves_nothing, answer_is}
use Rattle.cedar_gate_model.proofs.Runs.Did.{run_did}
use Rattle.cedar_gate_model.proofs.Runs.Loading.{slice_is_loaded}

if_true : {A : Type 0} (b : Bool) (x y : A) → b ≡ true → (if b then x else y) ≡ x
if_true true x y e = refl
if_true false x y e = cc

module _ (c : Course) (admitted : IsAdmitted c) (s : State) (stands : Stands (session_of c) s) (opened : (f : OpenRefusal) → OpenFault c.start f → ⊥)
    (nothing : (u : Uid) → IsWantedNow (session_of c) s u → ⊥) (fine : (f : AnswerRefusal) → AnswerFault (session_of c) s f → ⊥) where
  abbrev now : World
  now = world_now (session_of c) s

  pub fit : IsFitFor c.submission (with_unknowns now)
  fit =
      let h = completed (session_of c) s stands nothing fine opened (admitted.fair).agrees admitted.context admitted.store in
      completions_fit c.submission c.start (with_unknowns now) (admitted.fair).fair (subst (λ z. Completes (session_of c).schema z (session_of c).level c.start (with_unknowns now)) (admitted.fair).table h.request)

  in_slice : (u : Uid) → InSlice (session_of c).schema (session_of c).level (with_unknowns now) u → Contains s.asked u
  in_slice u h =
      slice_is_loaded (session_of c).schema now (session_of c).level s.asked nothing u
      (near_kept (with_unknowns now) now (λ v k. k) (λ v y k. k) (session_of c).level u h.0, h.1)

  -- what is in reach was loaded
  pub is_loaded : (u : Uid) → IsInReach (session_of c).schema (session_of c).level (with_unknowns now) u → (declares_action (session_of c).schema u || list_any (uid_eq u) s.asked) ≡ true
  is_loaded u (inl h) = hold_right (declares_action (session_of c).schema u) (list_any (uid_eq u) s.asked) ((found-Decides uid_eq uid_eq-Decides u s.asked).1 (in_slice u h))
  is_loaded u (inr h) = hold_left (declares_action (session_of c).schema u) (list_any (uid_eq u) s.asked) h

  abbrev loaded_store : Uid → Found V
  loaded_store u = if declares_action (session_of c).schema u || list_any (uid_eq u) s.asked then whole_store (session_of c) u else missing

  -- the answer over what was loaded is that over the whole store
  pub loaded_answers : answer_of (with_store now loaded_store) c.submission.policies ≡ answer_of now c.submission.policies
  loaded_answers =
      let ps = c.submission.policies in
      let clear = unknowns_say_nothing in
      sym (clear (with_store now loaded_store) ps (leaves_nothing c admitted) (none_has_unknowns c admitted))
      ∙ only_the_slice_answers c.submission (with_unknowns now) admitted.accepted fit loaded_store (λ u h. if_true _ (whole_store (session_of c) u) missing (is_loaded u h))
      ∙ clear now ps (leaves_nothing c admitted) (none_has_unknowns c admitted)

  -- what each policy means
  pub good : (p : Policy) → Contains c.submission.policies p → (r : Res V) × PolicyMeans (with_unknowns now) p r × IsGood (bool_type any_bool) r
  good p k =
      let h = completed (session_of c) s stands nothing fine opened (admitted.fair).agrees admitted.context admitted.store in
      (accepted_are_sound c.submission (with_unknowns now) admitted.accepted fit p k).0 (h.request).whole

  pub expected : (e : PolicyError) → Contains (answer_of now c.submission.policies).errors e → IsExpected e.fault
  expected e k =
      let ps = c.submission.policies in
      let w = with_unknowns now in
      let h = (errors_are_those w ps e).0 (subst (λ (z : Answer). Contains z.errors e) (sym (unknowns_say_nothing now ps (leaves_nothing c admitted) (none_has_unknowns c admitted))) k) in
      let p = h.0 in
      let g = good p h.1 in
      let same : g.0 ≡ err e.fault = one_outcome (with_slots w p.bindings) (condition p) g.0 (err e.fault) ((policies_mean_truth w p g.0).0 g.1) h.3 in
      subst (IsGood (bool_type any_bool)) same g.2

module _ (c : Course) (proper : IsProper c) (es : List transcript.Entry) (a : Answer) (run : MayRun c es (answered a)) where
  -- what holds at the end
  abbrev AtEnd : Type 0 → Type 0
  AtEnd P =
      Stands (session_of c) (end_state c.steps es) → ((f : OpenRefusal) → OpenFault c.start f → ⊥) → ((u : Uid) → IsWantedNow (session_of c) (end_state c.steps es) u → ⊥)
      → ((f : AnswerRefusal) → AnswerFault (session_of c) (end_state c.steps es) f → ⊥) → P

  pub at_end : {P : Type 0} → AtEnd P → P
  at_end h =
      let x = session_of c in
      let ps = c.submission.policies in
      ⊎_elim (λ b. let q : answered a ≡ opening_refused b.0 = b.1 in cc)
      (λ b. h (stands_after x (MayDecide x ps) ps at_start (bindings_in c.steps) es proper.values (b.1).0 (stands_at_start x)) b.0 ((b.1).1).0 ((b.1).1).1)
      (run_did (MayDecide x ps) x ps c.steps es (answered a) run)

  pub answer_is_loaded : a ≡ answer_of (loaded_world c es) c.submission.policies
  answer_is_loaded = at_end (λ stands opened nothing fine. answer_is c es a run ∙ sym (loaded_answers c proper.admitted (end_state c.steps es) stands opened nothing fine))

  pub errors_are_expected : (e : PolicyError) → Contains a.errors e → IsExpected e.fault
  errors_are_expected e k = at_end (λ stands opened nothing fine. expected c proper.admitted (end_state c.steps es) stands opened nothing fine e (subst (λ (z : Answer). Contains z.errors e) (answer_is c es a run) k))
