-- What holds at the states of a session that a run calls: which states are after a call, and what loads and steps do from a state on.
-- Rule: runs; sessions (docs/RULES.md).
use Rattle.std.specs.Prelude.{◌≡◌, ◌++◌, ◌∷◌, [], List, map, Bool, Option}
use Rattle.std.specs.declared.alloc.Global.{Global}
use Rattle.std.specs.declared.vec.Vec.{Vec}
use Rattle.cedar_expr_model.specs.Made.{Made}
use Rattle.cedar_expr_model.specs.Name.{Text}
use Rattle.cedar_expr_model.specs.OfLaws.Represented.{IsRepresented}
use Rattle.cedar_expr_model.specs.Uid.{Uid}
use Rattle.cedar_expr_names.specs.Views.{uid_of}
use Rattle.cedar_expr_names.specs.declared.entity.EntityUID.{EntityUID}
use Rattle.cedar_store_entities.specs.declared.entity.Entity.{Entity}
use Rattle.cedar_evaluator_model.specs.Members.{Concrete}
use Rattle.cedar_gate_model.specs.Runs.{supplied_by, with_asked}
use Rattle.cedar_gate_model.specs.RunsAnswer.{Course, session_of}
use Rattle.cedar_gate_model.specs.Session.{State, with_bound, IsWantedList}
use Rattle.cedar_gate_model.specs.Transcript as model
use Rattle.cedar_gate_runs.specs.Asking.{AskedBeyond, AskedRounds, rounds_of}
use Rattle.cedar_gate_runs.specs.Courses.{BindRepresented, DidSteps, IsHost, TakesSupply}
use Rattle.cedar_gate_runs.specs.Hosts.{Answers}
use Rattle.cedar_gate_runs.specs.Lost.{StopsAt, StopsLoading}
use Rattle.cedar_gate_runs.specs.Refusals.{IsSupplyRefusal, IsBindRefusal, IsAnswerRefusal}
use Rattle.cedar_gate_runs.specs.Running.{Went, DidLoad, DidLoadAll, StopsSupply, HaltsLoading}
use Rattle.cedar_gate_runs.specs.Steps.{steps_of}
use Rattle.cedar_gate_runs.specs.Stopping.{ComesTo, Halts, IsRefused}
use Rattle.cedar_gate_runs.specs.Supplies.{AreAnswers, supplied_of}
use Rattle.cedar_gate_runs.specs.Transcripts.{entries_of}
use Rattle.cedar_gate_runs.specs.declared.sessions.Refusal.{Refusal}
use Rattle.cedar_gate_runs.specs.declared.steps.Step.{Step}
use Rattle.cedar_gate_runs.specs.declared.stops_with.Stop.{Stop}
use Rattle.cedar_gate_runs.specs.declared.transcript.Entry.{Entry}

-- at each state of a course at which the session stands
abbrev pub AtEachState : {E : Type 0} → (Course → State → E → Type 0) → E → (Course → State → Type 0) → Type 0
AtEachState Stands e holds = (c : Course) (s : State) → Stands c s e → holds c s

-- at each such state, where the host's store is that of the course
abbrev pub OverHost : {E H : Type 0} → (Course → State → E → Type 0) → (H → Answers) → E → H → (Course → State → Type 0) → Type 0
OverHost Stands answers e h holds = (c : Course) (s : State) → Stands c s e → IsHost answers c s [] h → holds c s

-- at each such state, where the host's store is that of the course through these steps, and what they bind is represented
abbrev pub OverSteps : {E H : Type 0} → (Course → State → E → Type 0) → (H → Answers) → E → H → Vec Step Global → (Course → State → List model.Step → Type 0) → Type 0
OverSteps Stands answers e h steps holds = (c : Course) (s : State) → Stands c s e → IsHost answers c s (steps_of steps.items) h → BindRepresented c (steps_of steps.items) → holds c s (steps_of steps.items)

-- The second session is where a supply of all that is wanted, or a binding, leads from the first.
abbrev pub IsAfterSupply : {E : Type 0} → (Course → State → E → Type 0) → (E → List Uid) → E → E → List (EntityUID × Option Entity) → Type 0
IsAfterSupply Stands wants d e ps = AtEachState Stands d (λ c s. AreAnswers (session_of c) ps → Stands c (with_asked s (wants d)) e)

abbrev pub IsAfterBinding : {E : Type 0} → (Course → State → E → Type 0) → E → E → Text → Made → Type 0
IsAfterBinding Stands d e n m = AtEachState Stands d (λ c s. IsRepresented c.functions.table m → Stands c (with_bound s n m) e)

-- a supply, a binding or the answer is refused so
abbrev pub SupplyRefused : List (EntityUID × Option Entity) → Refusal → Course → State → Type 0
SupplyRefused ps r c s = IsSupplyRefusal (session_of c) s (supplied_of ps) r

abbrev pub BindingRefused : Text → Made → Refusal → Course → State → Type 0
BindingRefused n m r c s = IsBindRefusal (session_of c) s n m r

abbrev pub AnswerRefused : Refusal → Course → State → Type 0
AnswerRefused r c s = IsAnswerRefusal (session_of c) s r

-- The second session is where a round of these uids leads from the first at a state, if they are what is wanted.
abbrev pub IsAfterRound : {E : Type 0} → (Course → State → E → Type 0) → (E → List Uid) → E → E → List EntityUID → Course → State → Type 0
IsAfterRound Stands wants d e us c s = IsWantedList (session_of c) s (map uid_of us) → map uid_of us ≡ wants d → Stands c (with_asked s (map uid_of us)) e

-- what the store supplies for these uids is taken; or why it isn't
abbrev pub TakesRound : List EntityUID → Course → State → Type 0
TakesRound us c s = TakesSupply c s (supplied_by (session_of c) (map uid_of us))

abbrev pub RefusesRound : List EntityUID → Stop → Course → State → Type 0
RefusesRound us stop c s = StopsSupply (session_of c) s (supplied_by (session_of c) (map uid_of us)) stop

-- a load, or rounds until nothing is wanted, added entries and led to a state at which the session stands
abbrev pub WentByLoad : {E : Type 0} → (Course → State → E → Type 0) → Bool → Vec Entry Global → Vec Entry Global → E → Course → State → Type 0
WentByLoad Stands b before after e c s = Went (Stands c) (DidLoad (session_of c) s b) (entries_of before.items) (entries_of after.items) e

abbrev pub WentByRounds : {E : Type 0} → (Course → State → E → Type 0) → Vec Entry Global → Vec Entry Global → E → Course → State → Type 0
WentByRounds Stands before after e c s = Went (Stands c) (DidLoadAll (session_of c) s) (entries_of before.items) (entries_of after.items) e

-- so did steps
abbrev pub WentBySteps : {E : Type 0} → (Course → State → E → Type 0) → Vec Entry Global → Vec Entry Global → E → Course → State → List model.Step → Type 0
WentBySteps Stands before after e c s steps = Went (Stands c) (DidSteps c s steps) (entries_of before.items) (entries_of after.items) e

-- so did one step, if what it binds is represented
abbrev pub WentByStep : {E : Type 0} → (Course → State → E → Type 0) → model.Step → Vec Entry Global → Vec Entry Global → E → Course → State → Type 0
WentByStep Stands step before after e c s = BindRepresented c (step ∷ []) → WentBySteps Stands before after e c s (step ∷ [])

-- so did a binding, at each state at which the first session stands
abbrev pub WentByBinding : {E : Type 0} → (Course → State → E → Type 0) → E → E → Text → Made → Vec Entry Global → Vec Entry Global → Type 0
WentByBinding Stands d e n m before after = AtEachState Stands d (λ c s. IsRepresented c.functions.table m → WentBySteps Stands before after e c s (model.bind_name n m ∷ []))

-- the stop is there, where these entries are what the steps make from the state of the course on
abbrev pub IsRefusedAt : Course → State → List model.Step → List model.Entry → Stop → Type 0
IsRefusedAt c s steps es stop = IsRefused (session_of c) c.submission.policies s steps es stop

-- a step is refused with this stop, whatever steps come after it: at each state, or at each where the host's store is that of the course
abbrev pub RefusesStep : {E : Type 0} → (Course → State → E → Type 0) → E → model.Step → Stop → Type 0
RefusesStep Stands e step stop = (c : Course) (s : State) (rest : List model.Step) → Stands c s e → IsRefusedAt c s (step ∷ rest) [] stop

abbrev pub RefusesStepOver : {E H : Type 0} → (Course → State → E → Type 0) → (H → Answers) → E → H → model.Step → Stop → Type 0
RefusesStepOver Stands answers e h step stop = (c : Course) (s : State) (rest : List model.Step) → Stands c s e → IsHost answers c s [] h → IsRefusedAt c s (step ∷ rest) [] stop

-- entries were added, with which rounds stopped, a run of these steps stopped, or came to an answer
abbrev pub HaltsRounds : Vec Entry Global → Vec Entry Global → Stop → Course → State → Type 0
HaltsRounds before after stop c s = HaltsLoading (session_of c) s (entries_of before.items) (entries_of after.items) stop

abbrev pub HaltsSteps : Vec Entry Global → Vec Entry Global → Stop → Course → State → List model.Step → Type 0
HaltsSteps before after stop c s steps = Halts (session_of c) c.submission.policies s steps (entries_of before.items) (entries_of after.items) stop

abbrev pub ComesToAnswer : Vec Entry Global → Vec Entry Global → Concrete → Course → State → List model.Step → Type 0
ComesToAnswer before after answer c s steps = ComesTo (session_of c) c.submission.policies s steps (entries_of before.items) (entries_of after.items) answer

-- The host was asked for the rounds, if it was before; or for them and for what the stop leaves asked for beyond them.
abbrev pub AsksRounds : List (List Uid) → List (List Uid) → Vec Entry Global → Vec Entry Global → Type 0
AsksRounds asked now before after = (first : List (List Uid)) → AskedRounds first asked (entries_of before.items) → AskedRounds first now (entries_of after.items)

abbrev pub AsksBeyond : List (List Uid) → List (List Uid) → Vec Entry Global → Vec Entry Global → Stop → Type 0
AsksBeyond asked now before after stop = (first : List (List Uid)) → AskedRounds first asked (entries_of before.items) → AskedBeyond (first ++ rounds_of (entries_of after.items)) now stop

-- Where rounds stopped, or steps and rounds after them, the host was asked beyond the rounds for what was wanted then, if for anything.
abbrev pub LosesOneRound : {E H : Type 0} → (Course → State → E → Type 0) → (H → Answers) → (H → List (List Uid)) → E → H → H → Vec Entry Global → Vec Entry Global → Type 0
LosesOneRound Stands answers asked e g h before after =
    (c : Course) (s : State) (first : List (List Uid)) → Stands c s e → IsHost answers c s [] g → AskedRounds first (asked g) (entries_of before.items)
    → StopsLoading (session_of c) s (entries_of before.items) (entries_of after.items) first (asked h)

abbrev pub LosesOneInSteps : {E H : Type 0} → (Course → State → E → Type 0) → (H → Answers) → (H → List (List Uid)) → E → H → H → Vec Step Global → Vec Entry Global → Vec Entry Global → Type 0
LosesOneInSteps Stands answers asked e g h steps before after =
    (c : Course) (s : State) (first : List (List Uid)) → Stands c s e → IsHost answers c s (steps_of steps.items) g → BindRepresented c (steps_of steps.items)
    → AskedRounds first (asked g) (entries_of before.items) → StopsAt c s (steps_of steps.items) (entries_of before.items) (entries_of after.items) first (asked h)
