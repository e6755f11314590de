-- What the host was asked for beyond the rounds, where a run stopped: nothing, or the one list that was wanted then.
-- Rule: runs; the slice (docs/RULES.md).
use Rattle.std.specs.Prelude.{◌≡◌, ◌≢◌, ◌++◌, ◌∷◌, [], List, Contains, Result, Ok, Err}
use Rattle.std.specs.List.{flat_map}
use Rattle.std.proofs.Common.{◌⊎◌}
use Rattle.cedar_expr_model.specs.Uid.{Uid}
use Rattle.cedar_schema_model.specs.BagLaws.{HasTwice}
use Rattle.cedar_gate_model.specs.Did.{Loaded}
use Rattle.cedar_gate_model.specs.DoneBy.{HasDone, CameTo}
use Rattle.cedar_gate_model.specs.Headline.{IsNear}
use Rattle.cedar_gate_model.specs.RunsAnswer.{Course, session_of, IsAdmitted, AnswerFairly}
use Rattle.cedar_gate_model.specs.Session.{Setup, State, IsWantedList}
use Rattle.cedar_gate_model.specs.Transcript.{Step, Entry}
use Rattle.cedar_gate_runs.specs.Asking.{rounds_of, entries_done}
use Rattle.cedar_gate_runs.specs.Transcripts.{entries_of}
use Rattle.cedar_gate_runs.specs.declared.stops.RunFault.{RunFault}
use Rattle.cedar_gate_runs.specs.declared.transcript.Transcript.{Transcript}

-- Beyond what is reported, the host was asked for nothing, or for the list of what is wanted at the state, which isn't empty.
abbrev pub AskedLast : Setup → State → List (List Uid) → List (List Uid) → Type 0
AskedLast x s told asked = (asked ≡ told) ⊎ ((uids : List Uid) × (uids ≢ []) × IsWantedList x s uids × (asked ≡ told ++ uids ∷ []))

-- the host was asked for these uids at most
abbrev pub AskedAtMost : List (List Uid) → List (List Uid) → List Uid → Type 0
AskedAtMost before after uids = (after ≡ before) ⊎ (after ≡ before ++ uids ∷ [])

-- Rounds were added, which led to a state where the next one stopped.
pub record StopsLoading (x : Setup) (s : State) (before after : List Entry) (first asked : List (List Uid)) : Type 0 where
  pub entries : List Entry
  pub state : State
  pub added : after ≡ before ++ entries
  pub loaded : Loaded x s entries state
  pub last : AskedLast x state (first ++ rounds_of after) asked

-- Some of these steps, and rounds after them, added entries, and led to a state where the next thing stopped.
pub record StopsAt (c : Course) (s : State) (steps : List Step) (before after : List Entry) (first asked : List (List Uid)) : Type 0 where
  pub entries : List Entry
  pub state : State
  pub added : after ≡ before ++ entries
  pub done : HasDone c s steps entries state
  pub last : AskedLast (session_of c) state (first ++ rounds_of after) asked

-- A run of the course came to a state, and stopped there: the host was asked for its rounds, and beyond them for nothing, or for the list of
-- what is wanted at that state.
pub record AskedSoFar (c : Course) (first asked : List (List Uid)) (es : List Entry) : Type 0 where
  pub state : State
  pub came : CameTo c es state
  pub last : AskedLast (session_of c) state (first ++ rounds_of es) asked

-- what a run did, whether it came to an answer or stopped
abbrev pub entries_in : Result Transcript RunFault → List Entry
entries_in (Ok t) = entries_of t.entries.items
entries_in (Err f) = entries_done f

-- the uids of lists
abbrev pub uids_in : List (List Uid) → List Uid
uids_in lists = flat_map (λ us. us) lists

-- Beyond what it was asked at first, the host was asked for lists in which no uid is repeated, in two of them or in one; and each uid is near.
pub record AsksOnce (c : Course) (first asked : List (List Uid)) (es : List Entry) : Type 0 where
  pub lists : List (List Uid)
  pub gained : asked ≡ first ++ lists
  pub once : HasTwice (uids_in lists) → ⊥
  pub near : (u : Uid) → Contains (uids_in lists) u → IsNear c es u

-- where a run stopped, the list that it lost is that of what was wanted then
abbrev pub LastAsked : Course → List (List Uid) → List (List Uid) → Result Transcript RunFault → Type 0
LastAsked c first asked (Ok t) = Unit {0}
LastAsked c first asked (Err f) = AskedSoFar c first asked (entries_done f)

-- What the host was asked for in a run of the course: of a proper one, no uid twice and only what is near.
pub record AsksWell (c : Course) (first asked : List (List Uid)) (r : Result Transcript RunFault) : Type 0 where
  pub last : LastAsked c first asked r
  pub once : IsAdmitted c → AnswerFairly c.functions → AsksOnce c first asked (entries_in r)
