-- What evaluating in part decides may be given, so each run is one with decisions that may be given.
use Rattle.std.proofs.Common.{◌≡◌, List, [], ◌∷◌, Option, Some, None, inl, inr, ⊎_elim, sym}
use Rattle.std.specs.Prelude.{Contains}
use Rattle.cedar_expr_model.specs.Name.{Text}
use Rattle.cedar_expr_model.specs.Uid.{Uid}
use Rattle.cedar_expr_model.specs.Made.{Made}
use Rattle.cedar_expr_model.proofs.Lists.{contains_head, contains_tail}
use Rattle.cedar_store_model.specs.Policy.{Policy}
use Rattle.cedar_store_model.specs.Answer.{Decision}
use Rattle.cedar_store_model.specs.World.{Found}
use Rattle.cedar_evaluator_model.specs.Members.{decision_in_session}
use Rattle.cedar_evaluator_model.specs.OfLaws.WellMade.{IsWellMade}
use Rattle.cedar_evaluator_model.specs.Response.{response_of}
use Rattle.cedar_gate_model.specs.Runs.{End, answered, opening_refused, supply_refused, binding_refused, answer_refused, MayDecide, DecidesInPart, with_asked, Loads, Binds, DecidesNow, Follows, Runs}
use Rattle.cedar_gate_model.specs.RunLaws.{bindings_in}
use Rattle.cedar_gate_model.specs.RunsAnswer.{session_of, IsAdmitted, MakeFairly, AreBound, IsOpened, IsKnownStore, ForcedDecisionsAreGiven, EvaluatedDecisionsHold, RunsMayBe}
use Rattle.cedar_gate_model.specs.Session.{Setup, State, at_start, scope_now, with_bound, OpenRefusal, OpenFault, BindRefusal, BindFault}
use Rattle.cedar_gate_model.specs.Transcript.{Step, load, bind_name, decide, Entry, round, bound, decided}
use Rattle.cedar_gate_model.proofs.Runs.Opened.{fault_same}

-- A run with some decisions is one with others, where these hold in each opened state.
module _ (x : Setup) (ps : List Policy) (may more : State → Option Decision → Type 0) (opened : (f : OpenRefusal) → OpenFault x.start f → ⊥) (gives : (s : State) (d : Option Decision) → IsOpened x s → may s d → more s d) where
  loads_on : (s : State) (next onward : State → List Entry → Type 0) (es : List Entry) (end : End) → ((uids : List Uid) (fs : List Entry) → next (with_asked s uids) fs → onward (with_asked s uids) fs) → Loads x s next es end → Loads x s onward es end
  loads_on s next onward (round uids ∷ es) end f h = (h.0, f uids es h.1)
  loads_on s next onward (bound k ∷ es) end f h = absurd h
  loads_on s next onward (decided d ∷ es) end f h = absurd h
  loads_on s next onward [] (supply_refused r) f h = h
  loads_on s next onward [] (answered a) f h = absurd h
  loads_on s next onward [] (opening_refused r) f h = absurd h
  loads_on s next onward [] (binding_refused r) f h = absurd h
  loads_on s next onward [] (answer_refused r) f h = absurd h

  binds_on : (s : State) (n : Text) (m : Made) (next onward : List Entry → Type 0) (es : List Entry) (end : End) → ((fs : List Entry) → ((f : BindRefusal) → BindFault x s n m f → ⊥) → next fs → onward fs) → Binds x s n m next es end → Binds x s n m onward es end
  binds_on s n m next onward (bound k ∷ es) end f h = (h.0, h.1, f es h.1 h.2)
  binds_on s n m next onward (round uids ∷ es) end f h = absurd h
  binds_on s n m next onward (decided d ∷ es) end f h = absurd h
  binds_on s n m next onward [] (binding_refused r) f h = h
  binds_on s n m next onward [] (answered a) f h = absurd h
  binds_on s n m next onward [] (opening_refused r) f h = absurd h
  binds_on s n m next onward [] (supply_refused r) f h = absurd h
  binds_on s n m next onward [] (answer_refused r) f h = absurd h

  decides_on : (s : State) (next onward : List Entry → Type 0) (es : List Entry) → IsOpened x s → ((fs : List Entry) → next fs → onward fs) → DecidesNow (may s) next es → DecidesNow (more s) onward es
  decides_on s next onward (decided d ∷ es) o f h = (gives s d o h.0, f es h.1)
  decides_on s next onward (round uids ∷ es) o f h = absurd h
  decides_on s next onward (bound k ∷ es) o f h = absurd h
  decides_on s next onward [] o f h = absurd h

  follows_on : (s : State) (steps : List Step) (es : List Entry) (end : End) → AreBound x s.bound → ((b : Text × Made) → Contains (bindings_in steps) b → IsWellMade x.functions.table b.1) → Follows may x ps s steps es end → Follows more x ps s steps es end
  follows_on s [] es end b w h = h
  follows_on s (load ∷ steps) es end b w h =
      ⊎_elim (λ a. inl (a.0, follows_on s steps es end b w a.1))
      (λ a. inr (loads_on s (λ t fs. Follows may x ps t steps fs end) (λ t fs. Follows more x ps t steps fs end) es end (λ uids fs n. follows_on (with_asked s uids) steps fs end b w n) a)) h
  follows_on s (bind_name n m ∷ steps) es end b w h =
      binds_on s n m (λ fs. Follows may x ps (with_bound s n m) steps fs end) (λ fs. Follows more x ps (with_bound s n m) steps fs end) es end
      (λ fs taken k. follows_on (with_bound s n m) steps fs end (b, (λ f q. taken f (fault_same x s n m f q)), w (n, m) (contains_head (n, m) (bindings_in steps))) (λ c i. w c (contains_tail (n, m) (bindings_in steps) c i)) k) h
  follows_on s (decide ∷ steps) es end b w h = decides_on s (λ fs. Follows may x ps s steps fs end) (λ fs. Follows more x ps s steps fs end) es (record { opened = opened; bound = b }) (λ fs k. follows_on s steps fs end b w k) h

  runs_on : (steps : List Step) (es : List Entry) (end : End) → ((b : Text × Made) → Contains (bindings_in steps) b → IsWellMade x.functions.table b.1) → Follows may x ps at_start steps es end → Follows more x ps at_start steps es end
  runs_on steps es end w h = follows_on at_start steps es end tt w h

-- what evaluating in part gives, or that it gives nothing, may be given
pub may_be_given : ForcedDecisionsAreGiven → EvaluatedDecisionsHold → (c : _) (s : State) (store : Uid → Found Made) → IsAdmitted c → MakeFairly c.functions → IsOpened (session_of c) s → IsKnownStore c s store
    → (d : Option Decision) → d ≡ decision_in_session (response_of (scope_now (session_of c) s store) c.submission.limit c.submission.policies) → MayDecide (session_of c) c.submission.policies s d
may_be_given forced evaluated c s store admitted fair opened known None e = forced c s store admitted known.known (sym e)
may_be_given forced evaluated c s store admitted fair opened known (Some d) e = evaluated c s store admitted fair opened known d (sym e)

pub runs_may_be : ForcedDecisionsAreGiven → EvaluatedDecisionsHold → RunsMayBe
runs_may_be forced evaluated c es end proper fair run = by end run
  where
    x : Setup
    x = session_of c

    goes : (e : End) → ((f : OpenRefusal) → OpenFault x.start f → ⊥) → Follows (DecidesInPart x c.submission.policies) x c.submission.policies at_start c.steps es e → Follows (MayDecide x c.submission.policies) x c.submission.policies at_start c.steps es e
    goes e opened h =
        runs_on x c.submission.policies (DecidesInPart x c.submission.policies) (MayDecide x c.submission.policies) opened
        (λ s d o p. may_be_given forced evaluated c s p.0 proper.admitted fair o p.1 d p.2) c.steps es e proper.values h

    by : (e : End) → Runs (DecidesInPart x c.submission.policies) x c.submission.policies c.steps es e → Runs (MayDecide x c.submission.policies) x c.submission.policies c.steps es e
    by (opening_refused f) h = h
    by (answered a) h = (h.0, goes (answered a) h.0 h.1)
    by (supply_refused f) h = (h.0, goes (supply_refused f) h.0 h.1)
    by (binding_refused f) h = (h.0, goes (binding_refused f) h.0 h.1)
    by (answer_refused f) h = (h.0, goes (answer_refused f) h.0 h.1)
