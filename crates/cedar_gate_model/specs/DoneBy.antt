-- What was done by a moment of a run, whether the run goes on, ends or stops there.
-- Rule: runs; legal transcript; the slice (docs/RULES.md).
use Rattle.std.specs.Prelude.{◌≡◌, ◌++◌, List, Contains, Some, None}
use Rattle.cedar_expr_model.specs.Uid.{Uid}
use Rattle.cedar_schema_model.specs.BagLaws.{HasTwice}
use Rattle.cedar_store_model.specs.Answer.{Answer}
use Rattle.cedar_gate_model.specs.Did.{Did, Loaded}
use Rattle.cedar_gate_model.specs.GateLaws.{asked_in}
use Rattle.cedar_gate_model.specs.Headline.{IsNear, IsLegalSoFar, KeepsPromises}
use Rattle.cedar_gate_model.specs.Runs.{answered, DecidesInPart}
use Rattle.cedar_gate_model.specs.RunsAnswer.{Course, session_of, IsAdmitted, IsProper, MakeFairly, MayRun}
use Rattle.cedar_gate_model.specs.RunsAsk.{end_state}
use Rattle.cedar_gate_model.specs.Session.{State, at_start, OpenRefusal, OpenFault, IsWantedList}
use Rattle.cedar_gate_model.specs.Transcript.{Step, Entry}

-- From the one state some of these steps made the first of the entries, and rounds after them the others, which led to the other state.
pub record HasDone (c : Course) (s : State) (steps : List Step) (es : List Entry) (t : State) : Type 0 where
  pub done : List Step
  pub rest : List Step
  pub first : List Entry
  pub rounds : List Entry
  pub middle : State
  pub each : done ++ rest ≡ steps
  pub entries : first ++ rounds ≡ es
  pub did : Did (DecidesInPart (session_of c) c.submission.policies) (session_of c) s done first middle
  pub loaded : Loaded (session_of c) middle rounds t

-- A course that opens came so far: some of its steps and rounds after them made these entries, and led to this state.
pub record CameTo (c : Course) (es : List Entry) (t : State) : Type 0 where
  pub opens : (f : OpenRefusal) → OpenFault c.start f → ⊥
  pub done : HasDone c at_start c.steps es t

-- that is the state of what was bound and asked for
abbrev pub MomentsAreStates : Type 0
MomentsAreStates = (c : Course) (es : List Entry) (t : State) → CameTo c es t → t ≡ end_state c.steps es

-- All that a proper course did by a moment keeps the promises, where the functions make their values as they are written.
abbrev pub MomentsKeep : Type 0
MomentsKeep = (c : Course) (es : List Entry) (t : State) → IsProper c → MakeFairly c.functions → CameTo c es t → KeepsPromises c es None

-- What is wanted at a moment is near, and no uid of it was asked for before or stands in it twice.
abbrev pub WantedIsNew : Type 0
WantedIsNew = (c : Course) (es : List Entry) (t : State) (uids : List Uid) → IsAdmitted c → CameTo c es t → IsWantedList (session_of c) t uids
    → (HasTwice (asked_in es ++ uids) → ⊥) × ((u : Uid) → Contains uids u → IsNear c es u)

-- The transcript of an answered run is legal with its answer, against each world that completes its end.
abbrev pub AnsweredRunsAreLegal : Type 0
AnsweredRunsAreLegal = (c : Course) (es : List Entry) (a : Answer) → IsProper c → MayRun c es (answered a) → IsLegalSoFar c es (Some a)
