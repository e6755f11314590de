-- What steps and rounds did, and a stop after them, is a stop of the run.
use Rattle.std.proofs.Common.{◌≡◌, inl, inr, List, [], ◌++◌, refl, subst}
use Rattle.std.proofs.lemmas.List.{append-nil}
use Rattle.cedar_store_model.specs.Policy.{Policy}
use Rattle.cedar_gate_model.specs.Runs.{End, DecidesInPart, Follows, Finishes}
use Rattle.cedar_gate_model.specs.Session.{Setup, State}
use Rattle.cedar_gate_model.specs.Transcript.{Step, Entry}
use Rattle.cedar_gate_model.specs.Did.{Did, Loaded}
use Rattle.cedar_gate_model.proofs.Doing.{follows, loaded_finishes}
use Rattle.cedar_gate_runs.specs.Stopping.{IsRefused, HasStopped}
use Rattle.cedar_gate_runs.specs.declared.stops_with.Stop.{Stop}
use Rattle.cedar_gate_runs.specs.declared.stops_with.Stop.TheVariants.{Memory, Host, Supplying, Binding, Answering}

module _ (x : Setup) (ps : List Policy) where
  -- a stop of the steps that are left
  refused_on : (s t : State) (done rest : List Step) (es fs : List Entry) (stop : Stop) → Did (DecidesInPart x ps) x s done es t → IsRefused x ps t rest fs stop → IsRefused x ps s (done ++ rest) (es ++ fs) stop
  refused_on s t done rest es fs Memory d r = tt
  refused_on s t done rest es fs Host d r = tt
  refused_on s t done rest es fs (Supplying n) d (f, e, r) = (f, e, follows (DecidesInPart x ps) x ps s t done rest es fs _ d r)
  refused_on s t done rest es fs (Binding n) d (f, e, r) = (f, e, follows (DecidesInPart x ps) x ps s t done rest es fs _ d r)
  refused_on s t done rest es fs (Answering n) d (f, e, r) = (f, e, follows (DecidesInPart x ps) x ps s t done rest es fs _ d r)

  -- a stop after rounds
  refused_after : (s t : State) (es : List Entry) (stop : Stop) → Loaded x s es t → IsRefused x ps t [] [] stop → IsRefused x ps s [] es stop
  refused_after s t es Memory d r = tt
  refused_after s t es Host d r = tt
  refused_after s t es (Supplying n) d (f, e, r) = (f, e, loaded_finishes x ps s t es _ d r)
  refused_after s t es (Binding n) d (f, e, r) = (f, e, loaded_finishes x ps s t es _ d r)
  refused_after s t es (Answering n) d (f, e, r) = (f, e, loaded_finishes x ps s t es _ d r)

  -- some steps were done, and the next stops
  pub stopped_on : (s t : State) (steps done rest : List Step) (es : List Entry) (stop : Stop) → done ++ rest ≡ steps → Did (DecidesInPart x ps) x s done es t → IsRefused x ps t rest [] stop → HasStopped x ps s steps es stop
  stopped_on s t steps done rest es stop each d r =
      record {
        done = inl (record { done = done; rest = rest; state = t; each = each; did = d });
        refused = subst (λ zs. IsRefused x ps s zs es stop) each (subst (λ zs. IsRefused x ps s (done ++ rest) zs stop) (append-nil es) (refused_on s t done rest es [] stop d r));
      }

  -- all steps were done, and rounds, and then it stops
  pub stopped_after : (s t u : State) (steps : List Step) (es fs : List Entry) (stop : Stop) → Did (DecidesInPart x ps) x s steps es t → Loaded x t fs u → IsRefused x ps u [] [] stop → HasStopped x ps s steps (es ++ fs) stop
  stopped_after s t u steps es fs stop d l r =
      record {
        done = inr (record { first = es; rounds = fs; middle = t; state = u; entries = refl; did = d; loaded = l });
        refused = subst (λ zs. IsRefused x ps s zs (es ++ fs) stop) (append-nil steps) (refused_on s t steps [] es fs stop d (refused_after t u fs stop l r));
      }

  -- all steps were done, and rounds, and then it ends
  pub ended_after : (s t u : State) (steps : List Step) (es fs : List Entry) (end : End) → Did (DecidesInPart x ps) x s steps es t → Loaded x t fs u → Finishes x ps u [] end → Follows (DecidesInPart x ps) x ps s steps (es ++ fs) end
  ended_after s t u steps es fs end d l f =
      subst (λ zs. Follows (DecidesInPart x ps) x ps s zs (es ++ fs) end) (append-nil steps) (follows (DecidesInPart x ps) x ps s t steps [] es fs end d (loaded_finishes x ps t u fs end l f))
