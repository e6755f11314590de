-- Why runs stop, and what was done by then.
-- Rule: runs (docs/RULES.md).
use Rattle.std.specs.Prelude.{◌≡◌, ◌⊎◌, List, [], ◌++◌}
use Rattle.cedar_store_model.specs.Answer.{Answer}
use Rattle.cedar_store_model.specs.Policy.{Policy}
use Rattle.cedar_evaluator_model.specs.Laws.{as_concrete}
use Rattle.cedar_evaluator_model.specs.Members.{Concrete}
use Rattle.cedar_gate_model.specs.Runs.{answered, DecidesInPart, Finishes, Follows, supply_refused, binding_refused, answer_refused}
use Rattle.cedar_gate_model.specs.RunsAnswer.{Course, session_of}
use Rattle.cedar_gate_model.specs.Session.{Setup, State, SupplyRefusal, supply_number, BindRefusal, bind_number, AnswerRefusal, answer_number}
use Rattle.cedar_gate_model.specs.Transcript.{Step, Entry}
use Rattle.cedar_gate_model.specs.Did.{Did, Loaded}
use Rattle.cedar_gate_runs.specs.declared.stops_with.Stop.{Stop}
use Rattle.cedar_gate_runs.specs.declared.stops_with.Stop.TheVariants.{Memory, Host, Supplying, Binding, Answering}

-- Some of the steps made these entries.
pub record DidSome (x : Setup) (ps : List Policy) (s : State) (steps : List Step) (es : List Entry) : Type 0 where
  pub done : List Step
  pub rest : List Step
  pub state : State
  pub each : done ++ rest ≡ steps
  pub did : Did (DecidesInPart x ps) x s done es state

-- All steps and rounds after them made these entries.
pub record DidAll (x : Setup) (ps : List Policy) (s : State) (steps : List Step) (es : List Entry) : Type 0 where
  pub first : List Entry
  pub rounds : List Entry
  pub middle : State
  pub state : State
  pub entries : first ++ rounds ≡ es
  pub did : Did (DecidesInPart x ps) x s steps first middle
  pub loaded : Loaded x middle rounds state

-- what was done by now
abbrev pub WasDone : Setup → List Policy → State → List Step → List Entry → Type 0
WasDone x ps s steps es = DidSome x ps s steps es ⊎ DidAll x ps s steps es

-- The stop is there, where these entries are what the steps make. Out of memory and a fault of the host say nothing of it.
abbrev pub IsRefused : Setup → List Policy → State → List Step → List Entry → Stop → Type 0
IsRefused x ps s steps es Memory = Unit {0}
IsRefused x ps s steps es Host = Unit {0}
IsRefused x ps s steps es (Supplying n) = (f : SupplyRefusal) × (n ≡ supply_number f) × Follows (DecidesInPart x ps) x ps s steps es (supply_refused f)
IsRefused x ps s steps es (Binding n) = (f : BindRefusal) × (n ≡ bind_number f) × Follows (DecidesInPart x ps) x ps s steps es (binding_refused f)
IsRefused x ps s steps es (Answering n) = (f : AnswerRefusal) × (n ≡ answer_number f) × Follows (DecidesInPart x ps) x ps s steps es (answer_refused f)

-- A run of these steps stopped with these entries.
pub record HasStopped (x : Setup) (ps : List Policy) (s : State) (steps : List Step) (es : List Entry) (stop : Stop) : Type 0 where
  pub done : WasDone x ps s steps es
  pub refused : IsRefused x ps s steps es stop

-- Entries were added, with which a run of these steps stopped.
pub record Halts (x : Setup) (ps : List Policy) (s : State) (steps : List Step) (before after : List Entry) (stop : Stop) : Type 0 where
  pub entries : List Entry
  pub added : after ≡ before ++ entries
  pub stopped : HasStopped x ps s steps entries stop

-- Entries were added, with which a run of these steps came to an answer, reported so.
pub record ComesTo (x : Setup) (ps : List Policy) (s : State) (steps : List Step) (before after : List Entry) (told : Concrete) : Type 0 where
  pub entries : List Entry
  pub answer : Answer
  pub added : after ≡ before ++ entries
  pub same : told ≡ as_concrete answer
  pub follows : Follows (DecidesInPart x ps) x ps s steps entries (answered answer)

-- Nothing is wanted, and the answer of this state, which is reported so, isn't refused.
pub record Finished (c : Course) (s : State) (told : Concrete) : Type 0 where
  pub answer : Answer
  pub same : told ≡ as_concrete answer
  pub finishes : Finishes (session_of c) c.submission.policies s [] (answered answer)
