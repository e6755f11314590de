-- What a run stands on, as a course of the model.
-- Rule: runs; sessions (docs/RULES.md).
use Rattle.std.specs.Prelude.{◌≡◌, ◌++◌, List, Contains, Option, Some, option_map}
use Rattle.cedar_expr_model.specs.Name.{Text}
use Rattle.cedar_expr_model.specs.Uid.{Uid}
use Rattle.cedar_expr_model.specs.Made.{Made}
use Rattle.cedar_store_entities.specs.Views.{bare_entity}
use Rattle.cedar_store_model.specs.Answer.{Decision, answer_of}
use Rattle.cedar_store_model.specs.World as world
use Rattle.cedar_expr_model.specs.OfLaws.Represented.{IsRepresented}
use Rattle.cedar_evaluator_model.specs.Laws.{as_concrete}
use Rattle.cedar_evaluator_model.specs.Members.{Concrete}
use Rattle.cedar_evaluator_model.specs.OfLaws.WellMade.{IsEntityRepresented}
use Rattle.cedar_gate_runs.specs.Hosts.{Answers}
use Rattle.cedar_gate_model.specs.RunLaws.{bindings_in}
use Rattle.cedar_gate_model.specs.Runs.{DecidesInPart}
use Rattle.cedar_gate_model.specs.RunsAnswer.{Course, session_of}
use Rattle.cedar_gate_model.specs.Session.{State, Supplied, at_start, world_now, IsWantedList, OpenRefusal, OpenFault, SupplyRefusal, SupplyFault, BindRefusal, BindFault, AnswerRefusal, AnswerFault}
use Rattle.cedar_gate_model.specs.Transcript.{Step, Entry}
use Rattle.cedar_gate_model.specs.Did.{Did, Loaded}
use Rattle.cedar_gate_runs.specs.Steps.{steps_of}
use Rattle.cedar_gate_runs.specs.declared.steps.Step as code

-- the extension values in what these steps bind are what the calls of the table give
abbrev pub BindRepresented : Course → List Step → Type 0
BindRepresented c steps = (b : Text × Made) → Contains (bindings_in steps) b → IsRepresented c.functions.table b.1

-- the decision is that of evaluating the policies of the course in part
abbrev pub DecidesCourse : Course → State → Option Decision → Type 0
DecidesCourse c s d = DecidesInPart (session_of c) c.submission.policies s d

-- the answer by what the policies of the course mean, over the whole store
abbrev pub answer_in : Course → State → Concrete
answer_in c s = as_concrete (answer_of (world_now (session_of c) s) c.submission.policies)

-- there is no refusal: to open a session, to take a supply or a binding, or to answer
abbrev pub CourseOpens : Course → Type 0
CourseOpens c = (f : OpenRefusal) → OpenFault c.start f → ⊥

abbrev pub TakesSupply : Course → State → Supplied → Type 0
TakesSupply c s ps = (f : SupplyRefusal) → SupplyFault (session_of c) s ps f → ⊥

abbrev pub TakesBinding : Course → State → Text → Made → Type 0
TakesBinding c s n m = (f : BindRefusal) → BindFault (session_of c) s n m f → ⊥

abbrev pub GivesAnswer : Course → State → Type 0
GivesAnswer c s = (f : AnswerRefusal) → AnswerFault (session_of c) s f → ⊥

-- steps of a course made these entries, and led from the one state to the other
abbrev pub DidSteps : Course → State → List Step → List Entry → State → Type 0
DidSteps c = Did (DecidesInPart (session_of c) c.submission.policies) (session_of c)

-- A moment of a run that does these steps from a state on: some of them were done, and then rounds.
pub record IsMoment (c : Course) (s : State) (steps : List Step) (t : State) : Type 0 where
  pub done : List Step
  pub rest : List Step
  pub split : done ++ rest ≡ steps
  pub entries : List Entry
  pub rounds : List Entry
  pub state : State
  pub did : DidSteps c s done entries state
  pub loaded : Loaded (session_of c) state rounds t

-- The host's store is that of the course. In what it has for what is wanted at a moment of the run, the extension values are what the calls
-- of the table give.
pub record IsHost {H : Type 0} (answers : H → Answers) (c : Course) (s : State) (steps : List Step) (h : H) : Type 0 where
  pub store : (u : Uid) → c.store u ≡ option_map bare_entity (answers h u)
  pub represented : (t : State) (us : List Uid) (u : Uid) (e : world.Entity Made) → IsMoment c s steps t → IsWantedList (session_of c) t us → Contains us u
      → answers h u ≡ Some e → IsEntityRepresented c.functions.table e

-- A host that is honest now was honest before, and its store is the same.
abbrev pub HostStays : {H : Type 0} → (H → Type 0) → (H → Answers) → H → H → Type 0
HostStays IsHonest answers g h = IsHonest h → IsHonest g × (answers h ≡ answers g)

-- The course opens; the session stands at its start, and these are its steps.
pub record IsOf {E : Type 0} (Stands : Course → State → E → Type 0) (c : Course) (e : E) (given : List code.Step) : Type 0 where
  pub opens : (f : OpenRefusal) → OpenFault c.start f → ⊥
  pub stands : Stands c at_start e
  pub steps : steps_of given ≡ c.steps
  pub bound : BindRepresented c c.steps

-- The session and the steps are those of the course, and the host's store too.
pub record IsRunBy {E : Type 0} {H : Type 0} (Stands : Course → State → E → Type 0) (e : E) (given : List code.Step) (answers : H → Answers) (h : H) (c : Course) : Type 0 where
  pub session : IsOf Stands c e given
  pub host : IsHost answers c at_start c.steps h

-- for each course of which this is a run
abbrev pub InEachRun : {E : Type 0} → {H : Type 0} → (Course → State → E → Type 0) → E → List code.Step → (H → Answers) → H → (Course → Type 0) → Type 0
InEachRun Stands e given answers h holds = (c : Course) → IsRunBy Stands e given answers h c → holds c
