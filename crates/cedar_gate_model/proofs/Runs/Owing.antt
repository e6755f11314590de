-- Where all is bound and loaded a decision is owed.
use Rattle.std.proofs.Common.{◌≡◌, ◌∙◌, Bool, true, false, ◌&&◌, not, cond, List, [], ◌∷◌, ◌++◌, Option, Some, None, inl, inr, ⊎_elim, refl, sym, ap, subst}
use Rattle.std.specs.Prelude.{Contains, IsSome, All, slice_index_or}
use Rattle.std.specs.List.{list_any}
use Rattle.std.proofs.lemmas.List.Elements.{All-contains_itself}
use Rattle.cedar_expr_model.specs.Name.{Text}
use Rattle.cedar_expr_model.specs.Uid.{Uid}
use Rattle.cedar_expr_model.specs.Made.{Made}
use Rattle.cedar_expr_model.specs.Value.{V, truth_value}
use Rattle.cedar_expr_model.proofs.Lists.{any_from, any_has, both_hold, hold_both}
use Rattle.cedar_expr_model.proofs.Gathering.{each_in}
use Rattle.cedar_store_model.specs.Outcome.{Res, val}
use Rattle.cedar_store_model.specs.World.{World, Found}
use Rattle.cedar_store_model.specs.Looks.{Looks}
use Rattle.cedar_store_model.specs.Store.{unloaded}
use Rattle.cedar_store_model.specs.Policy.{Policy, Effect, permit, forbid, condition}
use Rattle.cedar_store_model.specs.Answer.{Decision, allow, deny, with_slots, PolicyMeans, satisfied, permits}
use Rattle.cedar_store_model.proofs.Answers.{is_permit, is_forbid}
use Rattle.cedar_store_model.proofs.Conditions.{policies_mean_truth, satisfied-Decides}
use Rattle.cedar_store_model.proofs.Meaning.{means_outcome, outcome_means}
use Rattle.cedar_store_model.proofs.Slices.{same_means}
use Rattle.cedar_evaluator_model.specs.Known.{known_found}
use Rattle.cedar_evaluator_model.specs.OfLaws.Whole.{NothingUnknown, HoldsValues}
use Rattle.cedar_evaluator_model.specs.Laws.{WithinLimit}
use Rattle.cedar_evaluator_model.proofs.Limits.{none_met}
use Rattle.cedar_evaluator_model.proofs.Settled.{same_filled}
use Rattle.cedar_gate_model.specs.Owed.{IsForced, IsForcedFalse}
use Rattle.cedar_gate_model.specs.Session.{Setup, State, at_start, known_now, world_now, scope_now, OpenRefusal, OpenFault, AnswerRefusal, AnswerFault, not_bound, still_wanted, not_conforming, MeetsLimit, with_bound}
use Rattle.cedar_gate_model.specs.Transcript as transcript
use Rattle.cedar_gate_model.specs.Transcript.{round, bound, decided}
use Rattle.cedar_gate_model.specs.Runs.{End, MayDecide, with_asked}
use Rattle.cedar_gate_model.specs.RunLaws.{bindings_in, last_state}
use Rattle.cedar_gate_model.specs.RunsAsk.{end_state}
use Rattle.cedar_gate_model.specs.RunsAnswer.{Course, session_of, IsAdmitted, IsProper, MayRun, IsReady, with_unknowns}
use Rattle.cedar_gate_model.proofs.Gate.Accepting.{accepted_good}
use Rattle.cedar_gate_model.proofs.Gate.Reach.{accepted_in_reach}
use Rattle.cedar_gate_model.proofs.Runs.Answering.{fit, is_loaded, good}
use Rattle.cedar_gate_model.proofs.Runs.Completing.{Stands, stands_at_start, stands_after, parts_there}
use Rattle.cedar_gate_model.proofs.Runs.Deciding.{none_unknown, none_has_unknowns, leaves_nothing}
use Rattle.cedar_gate_model.proofs.Runs.Did.{Did, run_did}
use Rattle.cedar_gate_model.proofs.Runs.Knowing.{known_values}
use Rattle.cedar_gate_model.proofs.Named.{IsForcedTrue}

-- policies that each mean something force a decision
module _ (k : World) (ps : List Policy) (means : (p : Policy) → Contains ps p → (r : Res V) × PolicyMeans k p r) where
  true_forced : (p : Policy) → satisfied k p ≡ true → IsForcedTrue k p
  true_forced p e = (policies_mean_truth k p (val (truth_value true))).1 ((satisfied-Decides k p).0 e)

  false_forced : (p : Policy) → Contains ps p → (satisfied k p ≡ true → ⊥) → IsForcedFalse k p
  false_forced p c not_so =
      let m = means p c in
      (m.0, m.1, λ e. not_so ((satisfied-Decides k p).1 ((policies_mean_truth k p (val (truth_value true))).0 (subst (PolicyMeans k p) e m.1))))

  abbrev some_forbid : Bool
  some_forbid = list_any (λ (p : Policy). not (permits p.effect) && satisfied k p) ps

  abbrev some_permit : Bool
  some_permit = list_any (λ (p : Policy). permits p.effect && satisfied k p) ps

  none_true : (e : Effect) (is : Effect → Bool) → is e ≡ true → list_any (λ (p : Policy). is p.effect && satisfied k p) ps ≡ false → (p : Policy) → Contains ps p → p.effect ≡ e → IsForcedFalse k p
  none_true e is t f p c q =
      false_forced p c
      (λ s.
      let one = any_has (λ (r : Policy). is r.effect && satisfied k r) ps p c (hold_both (is p.effect) (satisfied k p) (ap is q ∙ t) s) in
      let lie : true ≡ false = sym one ∙ f in cc)

  by_permit : (b : Bool) → some_permit ≡ b → some_forbid ≡ false → (d : Decision) × IsForced k ps d
  by_permit true e f =
      let r = any_from (λ (p : Policy). permits p.effect && satisfied k p) ps e in
      let h = both_hold (permits (r.0).effect) (satisfied k r.0) r.2 in
      (allow, ((r.0, r.1, is_permit (r.0).effect h.0, true_forced r.0 h.1), none_true forbid (λ e. not (permits e)) refl f))
  by_permit false e f = (deny, inr (none_true permit permits refl e))

  by_forbid : (b : Bool) → some_forbid ≡ b → (d : Decision) × IsForced k ps d
  by_forbid true e =
      let r = any_from (λ (p : Policy). not (permits p.effect) && satisfied k p) ps e in
      let h = both_hold (not (permits (r.0).effect)) (satisfied k r.0) r.2 in
      (deny, inl (r.0, r.1, is_forbid (r.0).effect h.0, true_forced r.0 h.1))
  by_forbid false e = by_permit some_permit refl e

  pub forced : (d : Decision) × IsForced k ps d
  forced = by_forbid some_forbid refl

pub each_all : (P : Policy → Type 0) (ps : List Policy) → ((p : Policy) → Contains ps p → P p) → All P ps
each_all P ps h = λ k d l. h (slice_index_or ps k d) (All-contains_itself ps k d l)

module _ (c : Course) (admitted : IsAdmitted c) (s : State) (stands : Stands (session_of c) s) (opened : (f : OpenRefusal) → OpenFault c.start f → ⊥) (ready : IsReady c s) where
  abbrev known : World
  known = known_now (session_of c) s

  abbrev now : World
  now = world_now (session_of c) s

  fine : (f : AnswerRefusal) → AnswerFault (session_of c) s f → ⊥
  fine not_bound h = ready.bound h
  fine still_wanted h = ready.loaded h.0 h.1
  fine not_conforming h = h.1 ready.conforms

  -- what a policy looks up was loaded
  looked_up : (p : Policy) → Contains c.submission.policies p → (u : Uid) → Looks (with_slots (with_unknowns now) p.bindings) (condition p) u → known.store u ≡ now.store u
  looked_up p k u l =
      let reach = accepted_in_reach c.submission (with_unknowns now) admitted.accepted (fit c admitted s stands opened ready.loaded fine) p k u l in
      ap (λ b. cond b (now.store u) (unloaded u)) (is_loaded c admitted s stands opened ready.loaded fine u reach)

  known_means : (p : Policy) → Contains c.submission.policies p → (r : Res V) × PolicyMeans known p r
  known_means p k =
      let g = good c admitted s stands opened ready.loaded fine p k in
      let w = with_unknowns now in
      let m = (policies_mean_truth w p g.0).0 g.1 in
      let n = (same_means (with_slots w p.bindings) known.store (condition p) (looked_up p k) g.0).0 m in
      let u = with_slots known p.bindings in
      let same = same_filled u (leaves_nothing c admitted) (condition p) (none_unknown (condition p) (none_has_unknowns c admitted p k) (λ n a. IsSome (u.unknowns n))) in
      (g.0, (policies_mean_truth known p g.0).1 (outcome_means u (condition p) g.0 (sym same ∙ means_outcome (with_slots (with_unknowns known) p.bindings) (condition p) g.0 n)))

  -- no policy meets the limit
  nothing_unknown : (store : Uid → Found Made) → ((u : Uid) → known_found (store u) ≡ known.store u) → NothingUnknown (scope_now (session_of c) s store)
  nothing_unknown store same =
      let p = parts_there (session_of c) s stands ready.loaded fine in
      record {
        principal = p.0;
        action = p.1;
        resource = p.2;
        context = p.3;
        store = λ u. subst HoldsValues (sym (same u)) (known_values (session_of c) s u (admitted.store u));
        calls = leaves_nothing c admitted;
      }

  none_limited : MeetsLimit (session_of c) c.submission.policies s → ⊥
  none_limited h =
      let scope = scope_now (session_of c) s h.0 in
      let within : (p : Policy) → Contains c.submission.policies p → WithinLimit scope c.submission.limit p =
      λ p k. ((each_in _ (condition p)).1 (none_unknown (condition p) (none_has_unknowns c admitted p k) _), ((accepted_good c.submission admitted.accepted).each p k).shallow) in
      let none = none_met scope (admitted.fair).agrees (nothing_unknown h.0 h.1) c.submission.limit c.submission.policies (each_all (WithinLimit scope c.submission.limit) c.submission.policies within) in
      let lie : true ≡ false = sym h.2 ∙ none in cc

  pub owed : (d : Option Decision) → MayDecide (session_of c) c.submission.policies s d → IsSome d
  owed (Some d) h = refl
  owed None h = let f = forced known c.submission.policies known_means in absurd (⊎_elim none_limited (λ k. k f.0 f.1) h)

-- a decision on the way
module _ (may : State → Option Decision → Type 0) (x : Setup) (ps : List Policy) where
  pub decided_then : (s : State) (bs : List (Text × Made)) (before after : List transcript.Entry) (d : Option Decision) → Did may x ps s bs (before ++ decided d ∷ after) → may (last_state s bs before) d × Did may x ps s bs before
  decided_then s bs [] after d h = (h.0, tt)
  decided_then s bs (round uids ∷ es) after d h = let r = decided_then (with_asked s uids) bs es after d h.1 in (r.0, (h.0, r.1))
  decided_then s [] (bound k ∷ es) after d h = absurd h
  decided_then s (b ∷ bs) (bound k ∷ es) after d h = let r = decided_then (with_bound s b.0 b.1) bs es after d h.2 in (r.0, (h.0, h.1, r.1))
  decided_then s bs (decided o ∷ es) after d h = let r = decided_then s bs es after d h.1 in (r.0, (h.0, r.1))

pub nothing_before : (before after : List transcript.Entry) (e : transcript.Entry) → before ++ e ∷ after ≡ [] → ⊥
nothing_before [] after e h = cc
nothing_before (b ∷ before) after e h = cc

pub ready_decisions : (c : Course) (before after : List transcript.Entry) (d : Option Decision) (end : End) → IsProper c → MayRun c (before ++ decided d ∷ after) end → IsReady c (end_state c.steps before) → IsSome d
ready_decisions c before after d end proper run ready =
    let x = session_of c in
    let ps = c.submission.policies in
    ⊎_elim (λ b. absurd (nothing_before before after (decided d) b.2))
    (λ b.
    let r = decided_then (MayDecide x ps) x ps at_start (bindings_in c.steps) before after d (b.1).0 in
    let stands = stands_after x (MayDecide x ps) ps at_start (bindings_in c.steps) before proper.values r.1 (stands_at_start x) in
    owed c proper.admitted (end_state c.steps before) stands b.0 ready d r.0)
    (run_did (MayDecide x ps) x ps c.steps (before ++ decided d ∷ after) end run)
