-- What was done by a moment of a run, and what it keeps.
use Rattle.std.proofs.Common.{◌≡◌, ◌∙◌, List, [], ◌∷◌, ◌++◌, Option, Some, None, inl, inr, ⊎_elim, refl, sym, ap, subst, arith}
use Rattle.std.specs.Prelude.{Contains, IsSome}
use Rattle.cedar_expr_model.specs.Made.{Made}
use Rattle.cedar_expr_model.specs.Name.{Text}
use Rattle.cedar_expr_model.specs.Uid.{Uid}
use Rattle.cedar_expr_model.specs.Value.{V}
use Rattle.cedar_expr_model.proofs.Lists.{contains_head, contains_tail, contains_none}
use Rattle.cedar_store_model.specs.Answer.{Decision, Answer, with_slots, answer_of}
use Rattle.cedar_store_model.specs.Laws.{with_store}
use Rattle.cedar_store_model.specs.Looks.{Looks}
use Rattle.cedar_store_model.specs.OfLaws.Extends.{Keeps, Extends}
use Rattle.cedar_store_model.specs.Policy.{Policy, condition}
use Rattle.cedar_store_model.specs.World.{World}
use Rattle.cedar_store_model.proofs.Conditions.{condition_asked}
use Rattle.cedar_store_model.proofs.Named.{bound_value}
use Rattle.cedar_store_model.proofs.Stores.{same_answers, only_lookups_answer}
use Rattle.cedar_schema_model.specs.BagLaws.{HasTwice}
use Rattle.cedar_evaluator_model.specs.OfLaws.WellMade.{IsWellMade}
use Rattle.cedar_evaluator_model.specs.OfLaws.Whole.{LeavesNothing}
use Rattle.cedar_evaluator_model.proofs.Settled.{same_meant}
use Rattle.cedar_gate_model.specs.Did as steps
use Rattle.cedar_gate_model.specs.Did.{Loaded}
use Rattle.cedar_gate_model.specs.DoneBy.{CameTo}
use Rattle.cedar_gate_model.specs.GateLaws.{asked_in}
use Rattle.cedar_gate_model.specs.Headline.{IsNear, IsLegalSoFar, KeepsPromises}
use Rattle.cedar_gate_model.specs.Moment.{at_first}
use Rattle.cedar_gate_model.specs.RunLaws.{bindings_in, last_state}
use Rattle.cedar_gate_model.specs.Runs.{answered, opening_refused, MayDecide, DecidesInPart, with_asked}
use Rattle.cedar_gate_model.specs.RunsAnswer.{Course, session_of, IsAdmitted, IsProper, MakeFairly, MayRun, AreBound, IsOpened, IsReady, with_unknowns}
use Rattle.cedar_gate_model.specs.RunsAsk.{end_state}
use Rattle.cedar_gate_model.specs.Session.{Setup, State, at_start, value_of, known_now, world_now, with_bound, OpenRefusal, OpenFault, AnswerRefusal, AnswerFault, NothingIsWanted, IsWantedList, CompletesNow}
use Rattle.cedar_gate_model.specs.Transcript.{Step, load, bind_name, decide, Entry, round, bound, decided}
use Rattle.cedar_gate_model.proofs.Gate.Reach.{accepted_in_reach}
use Rattle.cedar_gate_model.proofs.Gate.RisingUids.{rising_once, apart_once}
use Rattle.cedar_gate_model.proofs.Runs.Answering.{fit, is_loaded}
use Rattle.cedar_gate_model.proofs.Runs.Asking.{asked_last, once, within, few, wanted_in_slice}
use Rattle.cedar_gate_model.proofs.Runs.Completing.{Stands, stands_at_start, stands_after, parts_there}
use Rattle.cedar_gate_model.proofs.Runs.Deciding.{none_unknown, none_has_unknowns, leaves_nothing, unknowns_say_nothing}
use Rattle.cedar_gate_model.proofs.Runs.Did.{Did, run_did}
use Rattle.cedar_gate_model.proofs.Runs.Forcing.{forced_decisions_are_given}
use Rattle.cedar_gate_model.proofs.Runs.InPart.{may_be_given}
use Rattle.cedar_gate_model.proofs.Runs.Knowing.{same_there, knows_more}
use Rattle.cedar_gate_model.specs.Knowing.{without_slots}
use Rattle.cedar_gate_model.proofs.Runs.Legal.{legal, runs_are_legal}
use Rattle.cedar_gate_model.proofs.Runs.Opened.{fault_same, bound_after}
use Rattle.cedar_gate_model.proofs.Runs.Owing.{decided_then, owed}
use Rattle.cedar_gate_model.proofs.Runs.Scoped.{evaluated_decisions_hold}

-- what steps did, entry by entry, and what comes after them
module _ (may : State → Option Decision → Type 0) (x : Setup) (ps : List Policy) where
  -- What is done on top of what was done is done from the start, and leads to the same state.
  abbrev OnTop : State → State → List (Text × Made) → List (Text × Made) → List Entry → List Entry → Type 0
  OnTop s t all bs es fs = Did may x ps s all es × (last_state s all es ≡ last_state t bs fs)

  on_top : (s t : State) (done rest : List Step) (es fs : List Entry) → steps.Did may x s done es t → Did may x ps t (bindings_in rest) fs → OnTop s t (bindings_in (done ++ rest)) (bindings_in rest) (es ++ fs) fs
  on_top s t [] rest es fs (e, is) d =
      subst (λ zs. OnTop s t (bindings_in rest) (bindings_in rest) (zs ++ fs) fs) (sym e) (subst (λ z. OnTop z t (bindings_in rest) (bindings_in rest) fs fs) is (d, refl))
  on_top s t (load ∷ done) rest es fs (inl (none, k)) d = on_top s t done rest es fs k d
  on_top s t (load ∷ done) rest (round uids ∷ es) fs (inr (r, k)) d = let h = on_top (with_asked s uids) t done rest es fs k d in ((r, h.0), h.1)
  on_top s t (load ∷ done) rest [] fs (inr k) d = absurd k
  on_top s t (load ∷ done) rest (bound n ∷ es) fs (inr k) d = absurd k
  on_top s t (load ∷ done) rest (decided o ∷ es) fs (inr k) d = absurd k
  on_top s t (bind_name n m ∷ done) rest (bound i ∷ es) fs (e, taken, k) d = let h = on_top (with_bound s n m) t done rest es fs k d in ((e, taken, h.0), h.1)
  on_top s t (bind_name n m ∷ done) rest [] fs k d = absurd k
  on_top s t (bind_name n m ∷ done) rest (round uids ∷ es) fs k d = absurd k
  on_top s t (bind_name n m ∷ done) rest (decided o ∷ es) fs k d = absurd k
  on_top s t (decide ∷ done) rest (decided o ∷ es) fs (a, k) d = let h = on_top s t done rest es fs k d in ((a, h.0), h.1)
  on_top s t (decide ∷ done) rest [] fs k d = absurd k
  on_top s t (decide ∷ done) rest (round uids ∷ es) fs k d = absurd k
  on_top s t (decide ∷ done) rest (bound n ∷ es) fs k d = absurd k

  rounds_did : (s t : State) (bs : List (Text × Made)) (es : List Entry) → Loaded x s es t → Did may x ps s bs es × (last_state s bs es ≡ t)
  rounds_did s t bs [] e = (tt, sym e)
  rounds_did s t bs (round uids ∷ es) (r, k) = let h = rounds_did (with_asked s uids) t bs es k in ((r, h.0), h.1)
  rounds_did s t bs (bound n ∷ es) k = absurd k
  rounds_did s t bs (decided d ∷ es) k = absurd k

  -- Some decisions are others, where these hold in each opened state.
  module _ (more : State → Option Decision → Type 0) (opened : (f : OpenRefusal) → OpenFault x.start f → ⊥) (gives : (s : State) (d : Option Decision) → IsOpened x s → may s d → more s d) where
    did_on : (s : State) (bs : List (Text × Made)) (es : List Entry) → AreBound x s.bound → ((b : Text × Made) → Contains bs b → IsWellMade x.functions.table b.1) → Did may x ps s bs es → Did more x ps s bs es
    did_on s bs [] b w d = tt
    did_on s bs (round uids ∷ es) b w d = (d.0, did_on (with_asked s uids) bs es b w d.1)
    did_on s [] (bound k ∷ es) b w d = absurd d
    did_on s (c ∷ bs) (bound k ∷ es) b w d =
        (d.0, d.1, did_on (with_bound s c.0 c.1) bs es (b, (λ f q. d.1 f (fault_same x s c.0 c.1 f q)), w c (contains_head c bs)) (λ e i. w e (contains_tail c bs e i)) d.2)
    did_on s bs (decided o ∷ es) b w d = (gives s o (record { opened = opened; bound = b }) d.0, did_on s bs es b w d.1)

module _ (c : Course) (es : List Entry) (t : State) (came : CameTo c es t) where
  abbrev x : Setup
  x = session_of c

  abbrev ps : List Policy
  ps = c.submission.policies

  abbrev in_part : State → Option Decision → Type 0
  in_part = DecidesInPart x ps

  abbrev bs : List (Text × Made)
  bs = bindings_in c.steps

  did_there : Did in_part x ps at_start bs es × (last_state at_start bs es ≡ t)
  did_there =
      let d = came.done in
      let r = rounds_did in_part x ps d.middle t (bindings_in d.rest) d.rounds d.loaded in
      let h = on_top in_part x ps at_start d.middle d.done d.rest d.first d.rounds d.did r.0 in
      let P : List Step → List Entry → Type 0 = λ ys zs. Did in_part x ps at_start (bindings_in ys) zs × (last_state at_start (bindings_in ys) zs ≡ t) in
      subst (λ ys. P ys es) d.each (subst (λ zs. P (d.done ++ d.rest) zs) d.entries (h.0, h.1 ∙ r.1))

  pub moments_are_states : t ≡ end_state c.steps es
  moments_are_states = sym did_there.1

  asked_there : asked_in es ≡ t.asked
  asked_there = asked_last in_part x at_first at_start bs es refl did_there.0 ∙ ap (λ (z : State). z.asked) did_there.1

  nothing_once : HasTwice {X = Uid} [] → ⊥
  nothing_once h = h

  asked_once : HasTwice (asked_in es) → ⊥
  asked_once = subst (λ l. HasTwice l → ⊥) (sym (asked_last in_part x at_first at_start bs es refl did_there.0)) (once in_part x at_start bs es nothing_once did_there.0)

  pub wanted_is_new : (uids : List Uid) → IsAdmitted c → IsWantedList x t uids → (HasTwice (asked_in es ++ uids) → ⊥) × ((u : Uid) → Contains uids u → IsNear c es u)
  wanted_is_new uids admitted wanted = (
    apart_once (asked_in es) uids asked_once (rising_once uids wanted.in_order) (λ u k m. ((wanted.exact u).0 m).1 (subst (λ l. Contains l u) asked_there k)),
    λ u k. wanted_in_slice in_part x admitted.context t (end_state c.steps es) (λ n m e. subst (λ (z : State). value_of z n ≡ Some m) moments_are_states e) u ((wanted.exact u).0 k),
  )

  module _ (proper : IsProper c) (fair : MakeFairly c.functions) where
    abbrev may : State → Option Decision → Type 0
    may = MayDecide x ps

    did_may : Did may x ps at_start bs es
    did_may =
        did_on in_part x ps may came.opens
        (λ s d o p. may_be_given (λ k r store q same. forced_decisions_are_given k r store q same) evaluated_decisions_hold c s p.0 proper.admitted fair o p.1 d p.2) at_start bs es tt proper.values did_there.0

    near_there : (u : Uid) → Contains (asked_in es) u → IsNear c es u
    near_there u k =
        ⊎_elim (λ b. absurd (contains_none u b)) (λ b. b)
        (within may x proper.admitted.context at_start bs es did_may u (subst (λ l. Contains l u) (asked_last may x at_first at_start bs es refl did_may) k))

    owed_there : (before after : List Entry) (d : Option Decision) → es ≡ before ++ decided d ∷ after → IsReady c (end_state c.steps before) → IsSome d
    owed_there before after d is ready =
        let r = decided_then may x ps at_start bs before after d (subst (λ zs. Did may x ps at_start bs zs) is did_may) in
        owed c proper.admitted (end_state c.steps before) (stands_after x may ps at_start bs before proper.values r.1 (stands_at_start x)) came.opens ready d r.0

    pub moments_keep : KeepsPromises c es None
    moments_keep = record {
      admitted = proper.admitted.accepted;
      once = asked_once;
      near = near_there;
      few = few may x at_start bs es [] did_may (λ u k. absurd k) (omega arith);
      owed = owed_there;
      legal = λ w done. record { entries = legal c proper.admitted w at_start bs es proper.values did_may (stands_at_start x) (inl refl) done; answer = tt };
      whole = λ a is. cc;
    }

-- where all is bound and loaded each world that completes the state has the same answer
kept_is : {A : Type 0} (k o : Option A) → IsSome k → Keeps k o → k ≡ o
kept_is (Some a) o i h = sym h
kept_is None o i h = cc

module _ (c : Course) (admitted : IsAdmitted c) (end : State) (stands : Stands (session_of c) end) (start : IsOpened (session_of c) end)
    (nothing : NothingIsWanted (session_of c) end) (fine : (f : AnswerRefusal) → AnswerFault (session_of c) end f → ⊥) (w : World) (complete : CompletesNow (session_of c) end w) where
  abbrev setup : Setup
  setup = session_of c

  abbrev policies : List Policy
  policies = c.submission.policies

  abbrev now : World
  now = world_now setup end

  abbrev free : Text → Option V
  free = (with_unknowns now).unknowns

  more : Extends (known_now setup end) (without_slots w)
  more = knows_more c end w admitted start complete

  looked_up : (p : Policy) → Contains policies p → (u : Uid) → Looks (with_slots (with_unknowns now) p.bindings) (condition p) u → w.store u ≡ (with_unknowns now).store u
  looked_up p k u l =
      same_there setup end w complete u
      (is_loaded c admitted end stands start.opened nothing fine u (accepted_in_reach c.submission (with_unknowns now) admitted.accepted (fit c admitted end stands start.opened nothing fine) p k u l))

  -- the world with the unknowns and the slots of what is known
  abbrev plain : World
  plain = record w { unknowns = free; slots = now.slots }

  by_request : with_store (with_unknowns now) w.store ≡ plain
  by_request =
      let p = parts_there setup end stands nothing fine in
      let principal = kept_is now.principal w.principal p.0 more.principal in
      let action = kept_is now.action w.action p.1 more.action in
      let resource = kept_is now.resource w.resource p.2 more.resource in
      let context = kept_is now.context w.context p.3 more.context in
      let table = sym (complete.request).table in
      λ i. record plain { principal = principal i; action = action i; resource = resource i; context = context i; table = table i }

  by_unknowns : answer_of plain policies ≡ answer_of w policies
  by_unknowns =
      same_answers plain w policies
      (λ p k.
      let u = with_slots w p.bindings in
      condition_asked plain p
      ∙ same_meant u free (subst LeavesNothing (sym (complete.request).table) (leaves_nothing c admitted)) (condition p) (none_unknown (condition p) (none_has_unknowns c admitted p k) (λ n a. bound_value (free n) ≡ bound_value (u.unknowns n)))
      ∙ sym (condition_asked w p))

  pub one_answer : answer_of now policies ≡ answer_of w policies
  one_answer =
      sym (unknowns_say_nothing now policies (leaves_nothing c admitted) (none_has_unknowns c admitted)) ∙ sym (only_lookups_answer (with_unknowns now) w.store policies looked_up)
      ∙ ap (λ z. answer_of z policies) by_request ∙ by_unknowns

pub answered_runs_are_legal : (c : Course) (es : List Entry) (a : Answer) → IsProper c → MayRun c es (answered a) → IsLegalSoFar c es (Some a)
answered_runs_are_legal c es a proper run w complete =
    let x = session_of c in
    let ps = c.submission.policies in
    ⊎_elim (λ b. let q : answered a ≡ opening_refused b.0 = b.1 in cc)
    (λ b.
    let d = (b.1).0 in
    let stands = stands_after x (MayDecide x ps) ps at_start (bindings_in c.steps) es proper.values d (stands_at_start x) in
    let start : IsOpened x (end_state c.steps es) = record { opened = b.0; bound = bound_after x (MayDecide x ps) ps at_start (bindings_in c.steps) es proper.values d tt } in
    record {
      entries = runs_are_legal c es (answered a) proper run w complete;
      answer = ((b.1).1).2 ∙ one_answer c proper.admitted (end_state c.steps es) stands start ((b.1).1).0 ((b.1).1).1 w complete;
    })
    (run_did (MayDecide x ps) x ps c.steps es (answered a) run)
