-- What the refusals of a session and the faults of a host stop a run with.
use Rattle.std.proofs.Common.{◌≡◌, ℕ, List, [], ◌∷◌}
use Rattle.cedar_expr_model.specs.Name.{Text}
use Rattle.cedar_expr_model.specs.Uid.{Uid}
use Rattle.cedar_expr_model.specs.Made.{Made}
use Rattle.cedar_store_model.specs.Policy.{Policy}
use Rattle.cedar_gate_runs.specs.declared.host.HostFault.{HostFault}
use Rattle.cedar_gate_runs.specs.declared.host.HostFault.TheVariants as host
use Rattle.cedar_gate_model.specs.Runs.{supplied_by}
use Rattle.cedar_gate_model.specs.RunsAnswer.{Course, session_of}
use Rattle.cedar_gate_model.specs.Session.{Setup, State, Supplied, IsWantedList, NothingIsWanted, at_start, OpenRefusal, OpenFault}
use Rattle.cedar_gate_model.specs.Transcript.{Step, bind_name}
use Rattle.cedar_gate_runs.specs.Ends.{IsStopped}
use Rattle.cedar_gate_runs.specs.Refusals.{IsSupplyRefusal, IsBindRefusal, IsAnswerRefusal}
use Rattle.cedar_gate_runs.specs.Running.{StopsSupply, StopsLoad}
use Rattle.cedar_gate_runs.specs.Stopping.{IsRefused, HasStopped}
use Rattle.cedar_gate_runs.specs.StopsWith.{host_stop, supply_stop, bind_stop, answer_stop}
use Rattle.cedar_gate_runs.specs.declared.sessions.Refusal.{Refusal}
use Rattle.cedar_gate_runs.specs.declared.sessions.Refusal.TheVariants.{OutOfMemory, Numbered}
use Rattle.cedar_gate_runs.specs.declared.stops_with.Stop.{Stop}
use Rattle.cedar_gate_runs.specs.declared.stops_with.Stop.TheVariants.{Memory, Host, Supplying, Binding, Answering}
use Rattle.cedar_gate_runs.specs.Transcripts.{entries_of}
use Rattle.cedar_gate_runs.specs.declared.transcript.Transcript.{Transcript}
use Rattle.cedar_gate_runs.specs.declared.stops.RunFault.TheVariants as fault

pub host_stops : (x : Setup) (s : State) (ps : Supplied) (f : HostFault) → StopsSupply x s ps (host_stop f)
host_stops x s ps host.Memory = tt
host_stops x s ps host.Device = tt

pub supply_stops : (x : Setup) (s : State) (ps : Supplied) (r : Refusal) → IsSupplyRefusal x s ps r → StopsSupply x s ps (supply_stop r)
supply_stops x s ps OutOfMemory h = tt
supply_stops x s ps (Numbered n) h = h

-- a round whose supply stops
pub round_stops : (x : Setup) (s : State) (uids : List Uid) (stop : Stop) → (uids ≡ [] → ⊥) → IsWantedList x s uids → StopsSupply x s (supplied_by x uids) stop → StopsLoad x s stop
round_stops x s uids Memory some wanted h = tt
round_stops x s uids Host some wanted h = tt
round_stops x s uids (Supplying n) some wanted (f, e, h) = (f, e, (uids, some, wanted, h))
round_stops x s uids (Binding n) some wanted h = absurd h
round_stops x s uids (Answering n) some wanted h = absurd h

module _ (x : Setup) (ps : List Policy) (s : State) where
  pub bind_stops : (n : Text) (m : Made) (rest : List Step) (r : Refusal) → IsBindRefusal x s n m r → IsRefused x ps s (bind_name n m ∷ rest) [] (bind_stop r)
  bind_stops n m rest OutOfMemory h = tt
  bind_stops n m rest (Numbered k) h = h

  pub answer_stops : (r : Refusal) → NothingIsWanted x s → IsAnswerRefusal x s r → IsRefused x ps s [] [] (answer_stop r)
  answer_stops OutOfMemory none h = tt
  answer_stops (Numbered n) none (f, e, h) = (f, e, (none, h))

-- a run that stopped
module _ (c : Course) (opens : (f : OpenRefusal) → OpenFault c.start f → ⊥) (t : Transcript) where
  abbrev Stopped : Stop → Type 0
  Stopped stop = HasStopped (session_of c) c.submission.policies at_start c.steps (entries_of t.entries.items) stop

  pub memory_stopped : Stopped Memory → IsStopped c (fault.Memory t)
  memory_stopped h = h.done

  pub host_stopped : Stopped Host → IsStopped c (fault.Host t)
  host_stopped h = h.done

  pub supply_stopped : (n : ℕ) → Stopped (Supplying n) → IsStopped c (fault.Supplying n t)
  supply_stopped n h = let (f, e, r) = h.refused in (f, e, (opens, r))

  pub bind_stopped : (n : ℕ) → Stopped (Binding n) → IsStopped c (fault.Binding n t)
  bind_stopped n h = let (f, e, r) = h.refused in (f, e, (opens, r))

  pub answer_stopped : (n : ℕ) → Stopped (Answering n) → IsStopped c (fault.Answering n t)
  answer_stopped n h = let (f, e, r) = h.refused in (f, e, (opens, r))
