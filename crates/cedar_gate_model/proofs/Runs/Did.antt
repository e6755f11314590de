-- What a run did, entry by entry, and how it ended.
use Rattle.std.proofs.Common.{◌≡◌, Option, List, [], ◌∷◌, inl, inr, ⊎_elim, ◌⊎◌, refl}
use Rattle.cedar_expr_model.specs.Name.{Text}
use Rattle.cedar_expr_model.specs.Made.{Made}
use Rattle.cedar_store_model.specs.Policy.{Policy}
use Rattle.cedar_store_model.specs.Answer.{Decision, answer_of}
use Rattle.cedar_gate_model.specs.Transcript.{Step, load, bind_name, decide, Entry, round, bound, decided}
use Rattle.cedar_gate_model.specs.Session.{Setup, State, at_start, world_now, NothingIsWanted, BindRefusal, BindFault, AnswerRefusal, AnswerFault, OpenRefusal, OpenFault, with_bound}
use Rattle.cedar_gate_model.specs.Runs.{End, answered, opening_refused, supply_refused, binding_refused, answer_refused, IsRoundNow, with_asked, Finishes, Loads, Binds, DecidesNow, Follows, Runs}
use Rattle.cedar_gate_model.specs.RunLaws.{bindings_in, last_state}
use Rattle.cedar_gate_model.proofs.Gate.AlikeRuns.{opened_or_not}

module _ (may : State → Option Decision → Type 0) (x : Setup) (ps : List Policy) where
  -- Each round is one, each binding is taken, and each decision may be.
  abbrev pub Did : State → List (Text × Made) → List Entry → Type 0
  Did s bs [] = Unit {0}
  Did s bs (round uids ∷ es) = IsRoundNow x s uids × Did (with_asked s uids) bs es
  Did s [] (bound k ∷ es) = ⊥
  Did s (b ∷ bs) (bound k ∷ es) = (k ≡ b.0) × ((f : BindRefusal) → BindFault x s b.0 b.1 f → ⊥) × Did (with_bound s b.0 b.1) bs es
  Did s bs (decided d ∷ es) = may s d × Did s bs es

  -- what an answer says of the state before it
  abbrev pub Ended : State → End → Type 0
  Ended s (answered a) = NothingIsWanted x s × ((f : AnswerRefusal) → AnswerFault x s f → ⊥) × (a ≡ answer_of (world_now x s) ps)
  Ended s (opening_refused f) = Unit {0}
  Ended s (supply_refused f) = Unit {0}
  Ended s (binding_refused f) = Unit {0}
  Ended s (answer_refused f) = Unit {0}

  -- an answered run did all bindings
  abbrev pub Consumed : List (Text × Made) → List Entry → End → Type 0
  Consumed bs [] (answered a) = bs ≡ []
  Consumed bs [] (opening_refused f) = Unit {0}
  Consumed bs [] (supply_refused f) = Unit {0}
  Consumed bs [] (binding_refused f) = Unit {0}
  Consumed bs [] (answer_refused f) = Unit {0}
  Consumed bs (round uids ∷ es) end = Consumed bs es end
  Consumed [] (bound k ∷ es) end = ⊥
  Consumed (b ∷ bs) (bound k ∷ es) end = Consumed bs es end
  Consumed bs (decided d ∷ es) end = Consumed bs es end

  abbrev pub DidAll : State → List (Text × Made) → List Entry → End → Type 0
  DidAll s bs es end = Did s bs es × Ended (last_state s bs es) end × Consumed bs es end

  abbrev Stopped : State → List (Text × Made) → End → Type 0
  Stopped s bs end = Ended s end × Consumed bs [] end

  finished : (s : State) (end : End) → Finishes x ps s [] end → Stopped s [] end
  finished s (answered a) h = (h, refl)
  finished s (opening_refused f) h = (tt, tt)
  finished s (supply_refused f) h = (tt, tt)
  finished s (binding_refused f) h = (tt, tt)
  finished s (answer_refused f) h = (tt, tt)

  finish_did : (s : State) (es : List Entry) (end : End) → Finishes x ps s es end → DidAll s [] es end
  finish_did s [] end h = let f = finished s end h in (tt, f.0, f.1)
  finish_did s (round uids ∷ es) end h = let r = finish_did (with_asked s uids) es end h.1 in ((h.0, r.0), r.1, r.2)
  finish_did s (bound k ∷ es) end h = absurd h
  finish_did s (decided d ∷ es) end h = absurd h

  unloaded : (s : State) (next : State → List Entry → Type 0) (bs : List (Text × Made)) (end : End) → Loads x s next [] end → Stopped s bs end
  unloaded s next bs (answered a) h = absurd h
  unloaded s next bs (opening_refused f) h = (tt, tt)
  unloaded s next bs (supply_refused f) h = (tt, tt)
  unloaded s next bs (binding_refused f) h = (tt, tt)
  unloaded s next bs (answer_refused f) h = (tt, tt)

  load_did : (s : State) (bs : List (Text × Made)) (end : End) (next : State → List Entry → Type 0) → ((t : State) (es : List Entry) → next t es → DidAll t bs es end) → (es : List Entry) → Loads x s next es end → DidAll s bs es end
  load_did s bs end next then [] h = let f = unloaded s next bs end h in (tt, f.0, f.1)
  load_did s bs end next then (round uids ∷ es) h = let r = then (with_asked s uids) es h.1 in ((h.0, r.0), r.1, r.2)
  load_did s bs end next then (bound k ∷ es) h = absurd h
  load_did s bs end next then (decided d ∷ es) h = absurd h

  unbound : (s : State) (n : Text) (m : Made) (next : List Entry → Type 0) (bs : List (Text × Made)) (end : End) → Binds x s n m next [] end → Stopped s bs end
  unbound s n m next bs (answered a) h = absurd h
  unbound s n m next bs (opening_refused f) h = (tt, tt)
  unbound s n m next bs (supply_refused f) h = (tt, tt)
  unbound s n m next bs (binding_refused f) h = (tt, tt)
  unbound s n m next bs (answer_refused f) h = (tt, tt)

  bind_did : (s : State) (n : Text) (m : Made) (bs : List (Text × Made)) (end : End) (next : List Entry → Type 0) → ((es : List Entry) → next es → DidAll (with_bound s n m) bs es end) → (es : List Entry) → Binds x s n m next es end
      → DidAll s ((n, m) ∷ bs) es end
  bind_did s n m bs end next then [] h = let f = unbound s n m next ((n, m) ∷ bs) end h in (tt, f.0, f.1)
  bind_did s n m bs end next then (bound k ∷ es) h = let r = then es h.2 in ((h.0, h.1, r.0), r.1, r.2)
  bind_did s n m bs end next then (round uids ∷ es) h = absurd h
  bind_did s n m bs end next then (decided d ∷ es) h = absurd h

  decide_did : (s : State) (bs : List (Text × Made)) (end : End) (next : List Entry → Type 0) → ((es : List Entry) → next es → DidAll s bs es end) → (es : List Entry) → DecidesNow (may s) next es → DidAll s bs es end
  decide_did s bs end next then (decided d ∷ es) h = let r = then es h.1 in ((h.0, r.0), r.1, r.2)
  decide_did s bs end next then [] h = absurd h
  decide_did s bs end next then (round uids ∷ es) h = absurd h
  decide_did s bs end next then (bound k ∷ es) h = absurd h

  follow_did : (s : State) (steps : List Step) (es : List Entry) (end : End) → Follows may x ps s steps es end → DidAll s (bindings_in steps) es end
  follow_did s [] es end h = finish_did s es end h
  follow_did s (load ∷ steps) es end h =
      ⊎_elim (λ a. follow_did s steps es end a.1)
      (λ a. load_did s (bindings_in steps) end (λ t gs. Follows may x ps t steps gs end) (λ t gs p. follow_did t steps gs end p) es a) h
  follow_did s (bind_name n m ∷ steps) es end h =
      bind_did s n m (bindings_in steps) end (λ gs. Follows may x ps (with_bound s n m) steps gs end) (λ gs p. follow_did (with_bound s n m) steps gs end p) es h
  follow_did s (decide ∷ steps) es end h =
      decide_did s (bindings_in steps) end (λ gs. Follows may x ps s steps gs end) (λ gs p. follow_did s steps gs end p) es h

  -- A run did nothing and didn't open, or it opened, did its entries and ended so.
  pub run_did : (steps : List Step) (es : List Entry) (end : End) → Runs may x ps steps es end
      → ((f : OpenRefusal) × (end ≡ opening_refused f) × (es ≡ [])) ⊎ (((f : OpenRefusal) → OpenFault x.start f → ⊥) × DidAll at_start (bindings_in steps) es end)
  run_did steps es end h =
      ⊎_elim (λ a. inl (a.0, a.1, a.2)) (λ a. inr (a.0, follow_did at_start steps es end a.1)) (opened_or_not may x ps steps es end h)
