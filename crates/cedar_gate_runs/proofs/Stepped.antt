-- What one step did, and why it stops.
use Rattle.std.proofs.Common.{inl, inr, List, [], ◌∷◌, ◌++◌, Bool, true, false, Option, refl, sym, ap, ◌∙◌, subst, append_assoc}
use Rattle.cedar_expr_model.specs.Name.{Text}
use Rattle.cedar_expr_model.specs.Made.{Made}
use Rattle.cedar_store_model.specs.Answer.{Decision}
use Rattle.cedar_store_model.specs.Policy.{Policy}
use Rattle.cedar_gate_model.specs.Runs.{DecidesInPart}
use Rattle.cedar_gate_model.specs.Session.{Setup, State, with_bound, BindFault, BindRefusal, bind_number}
use Rattle.cedar_gate_model.specs.Transcript.{Step, load, bind_name, decide, Entry, bound, decided}
use Rattle.cedar_gate_model.specs.Did.{Did}
use Rattle.cedar_gate_model.proofs.Doing.{more}
use Rattle.cedar_gate_runs.specs.Running.{Went, DidLoad, StopsLoad}
use Rattle.cedar_gate_runs.specs.Stopping.{IsRefused}
use Rattle.cedar_gate_runs.specs.declared.stops_with.Stop.{Stop}
use Rattle.cedar_gate_runs.specs.declared.stops_with.Stop.TheVariants.{Memory, Host, Supplying, Binding, Answering}

module _ (x : Setup) (ps : List Policy) where
  pub loads : (s t : State) (b : Bool) (es : List Entry) → DidLoad x s b es t → Did (DecidesInPart x ps) x s (load ∷ []) es t
  loads s t true es (uids, r, e, is) = subst (λ zs. Did (DecidesInPart x ps) x s (load ∷ []) zs t) (sym e) (inr (r, (refl, is)))
  loads s t false es (n, e, is) = inl (n, (e, is))

  pub binds : (s : State) (n : Text) (m : Made) → ((f : BindRefusal) → BindFault x s n m f → ⊥) → Did (DecidesInPart x ps) x s (bind_name n m ∷ []) (bound n ∷ []) (with_bound s n m)
  binds s n m taken = (refl, taken, (refl, refl))

  pub decides : (s : State) (d : Option Decision) → DecidesInPart x ps s d → Did (DecidesInPart x ps) x s (decide ∷ []) (decided d ∷ []) s
  decides s d may = (may, (refl, refl))

  -- a load that stops
  pub load_stops : (s : State) (stop : Stop) (rest : List Step) → StopsLoad x s stop → IsRefused x ps s (load ∷ rest) [] stop
  load_stops s Memory rest h = tt
  load_stops s Host rest h = tt
  load_stops s (Supplying n) rest (f, e, h) = (f, e, inr h)
  load_stops s (Binding n) rest h = absurd h
  load_stops s (Answering n) rest h = absurd h

  pub loading_stops : (s : State) (stop : Stop) → StopsLoad x s stop → IsRefused x ps s [] [] stop
  loading_stops s Memory h = tt
  loading_stops s Host h = tt
  loading_stops s (Supplying n) (f, e, h) = (f, e, h)
  loading_stops s (Binding n) h = absurd h
  loading_stops s (Answering n) h = absurd h

  -- a binding that is refused
  pub bind_stops : (s : State) (n : Text) (m : Made) (f : BindRefusal) (rest : List Step) → BindFault x s n m f → IsRefused x ps s (bind_name n m ∷ rest) [] (Binding (bind_number f))
  bind_stops s n m f rest h = (f, refl, h)

-- one step more
pub went_more : {E : Type 0} (x : Setup) (ps : List Policy) (IsAt : State → E → Type 0) (s : State) (done : List Step) (step : Step) (a b c : List Entry) (d e : E)
    → (w : Went IsAt (Did (DecidesInPart x ps) x s done) a b d) → Went IsAt (Did (DecidesInPart x ps) x w.state (step ∷ [])) b c e → Went IsAt (Did (DecidesInPart x ps) x s (done ++ step ∷ [])) a c e
went_more x ps IsAt s done step a b c d e w v =
    record {
      entries = w.entries ++ v.entries;
      state = v.state;
      leads = more (DecidesInPart x ps) x s w.state v.state done step w.entries v.entries w.leads v.leads;
      added = v.added ∙ ap (λ zs. zs ++ v.entries) w.added ∙ append_assoc a w.entries v.entries;
      at = v.at;
    }

-- a load is a step
pub load_goes : {E : Type 0} (x : Setup) (ps : List Policy) (IsAt : State → E → Type 0) (s : State) (b : Bool) (before after : List Entry) (e : E) → Went IsAt (DidLoad x s b) before after e → Went IsAt (Did (DecidesInPart x ps) x s (load ∷ [])) before after e
load_goes x ps IsAt s b before after e w = record { entries = w.entries; state = w.state; leads = loads x ps s w.state b w.entries w.leads; added = w.added; at = w.at }
