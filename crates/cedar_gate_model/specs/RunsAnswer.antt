-- What the laws say of what runs decide and answer.
-- Rule: runs; completions; the answer (docs/RULES.md).
use Rattle.std.specs.Prelude.{◌≡◌, map, ◌||◌, ◌++◌, [], ◌∷◌, List, Contains, true, false, Option, Some, None, IsSome, unwrap_or, if◌then◌else◌, option_map}
use Rattle.std.specs.List.{list_any}
use Rattle.std.specs.Map.{lookup}
use Rattle.serde_json.specs.Data.{Data}
use Rattle.cedar_expr_model.specs.Name.{Text, Name}
use Rattle.cedar_expr_model.specs.Uid.{Uid, uid_eq}
use Rattle.cedar_expr_model.specs.Made.{Made, bare}
use Rattle.cedar_expr_model.specs.Table.{all_typed}
use Rattle.cedar_expr_model.specs.OfLaws.Fair.{IsFair, IsTaken}
use Rattle.cedar_expr_model.specs.OfLaws.Represented.{IsRepresented}
use Rattle.cedar_expr_model.specs.Value.{V, truth_value}
use Rattle.cedar_store_model.specs.World.{World, Entity, Found, missing}
use Rattle.cedar_store_model.specs.Knowledge.{holds_values}
use Rattle.cedar_store_model.specs.OfLaws.Extends.{Keeps}
use Rattle.cedar_store_model.specs.Answer.{Decision, Answer, PolicyError, answer_of}
use Rattle.cedar_schema_model.specs.Schema.{declares_action}
use Rattle.cedar_schema_model.specs.Conforming.{RequestConforms}
use Rattle.cedar_typechecker_model.specs.Soundness.{IsExpected}
use Rattle.cedar_evaluator_model.specs.Scope.{makes, residual_fields}
use Rattle.cedar_evaluator_model.specs.OfLaws.Calls.{Agrees}
use Rattle.cedar_evaluator_model.specs.Known.{known_found}
use Rattle.cedar_evaluator_model.specs.Members.{decision_in_session}
use Rattle.cedar_evaluator_model.specs.Response.{PartialRequest, response_of}
use Rattle.cedar_evaluator_model.specs.OfLaws.WellMade.{IsWellMade, MakeValues}
use Rattle.cedar_evaluator_model.specs.OfLaws.Completing as evaluator
use Rattle.cedar_evaluator_model.specs.Completion.{PartIs}
use Rattle.cedar_evaluator_model.specs.OfLaws.Completable.{is_free_name}
use Rattle.cedar_expr_model.specs.Tree.{TreeFields, record_literal}
use Rattle.cedar_gate_model.specs.Acceptance.{Submission, IsAccepted, schema_in}
use Rattle.cedar_evaluator_model.specs.Functions.{Functions, with_functions}
use Rattle.cedar_gate_model.specs.Bundle.{Bundle}
use Rattle.cedar_gate_model.specs.Moment.{request_of, at_first}
use Rattle.cedar_gate_model.specs.ReadingBundle.{bundle_read}
use Rattle.cedar_gate_model.specs.Transcript.{Step, Entry, decided, AreLegal}
use Rattle.cedar_gate_model.specs.Session.{Setup, State, value_of, context_now, scope_now, known_now, whole_store, world_now, NothingIsWanted, OpenRefusal, OpenFault, BindRefusal, BindFault, HasOpenName, CompletesNow}
use Rattle.cedar_gate_model.specs.Runs.{End, answered, MayDecide, IsKnownBy, DecidesInPart, Runs}
use Rattle.cedar_gate_model.specs.RunLaws.{bindings_in, case_of}
use Rattle.cedar_gate_model.specs.RunsAsk.{IsMadeContext, end_state}

-- What a run is of: what is handed to the gate, the functions, the request, the store that answers, and the steps.
pub record Course : Type 0 where
  pub submission : Submission
  pub functions : Functions
  pub start : PartialRequest
  pub store : Uid → Option (Entity V)
  pub steps : List Step

-- the session of a course
abbrev pub session_of : Course → Setup
session_of c = record {
  schema = schema_in c.submission;
  level = c.submission.level;
  limit = c.submission.limit;
  functions = c.functions;
  start = c.start;
  store = c.store;
}

-- The functions are those of the submission and fair, each has a result type, and the calls answer as the table does.
pub record AreFair (c : Course) : Type 0 where
  pub table : c.functions.table ≡ c.submission.table
  pub fair : IsFair c.submission.table
  pub typed : all_typed c.submission.table ≡ true
  pub agrees : Agrees (with_functions c.functions)

-- The submission is accepted and the functions are fair; the context is as it is made, and the store holds values alone.
pub record IsAdmitted (c : Course) : Type 0 where
  pub accepted : IsAccepted c.submission
  pub fair : AreFair c
  pub context : IsMadeContext c.start.context
  pub store : (u : Uid) (e : Entity V) → c.store u ≡ Some e → holds_values e ≡ true

-- Such a course binds values as they are made.
pub record IsProper (c : Course) : Type 0 where
  pub admitted : IsAdmitted c
  pub values : (b : Text × Made) → Contains (bindings_in c.steps) b → IsWellMade c.functions.table b.1

-- The entries and the end are those of a run of the course, which decides by evaluating in part.
abbrev pub IsRun : Course → List Entry → End → Type 0
IsRun c es end = Runs (DecidesInPart (session_of c) c.submission.policies) (session_of c) c.submission.policies c.steps es end

-- They are those of a run with any decisions that may be given.
abbrev pub MayRun : Course → List Entry → End → Type 0
MayRun c es end = Runs (MayDecide (session_of c) c.submission.policies) (session_of c) c.submission.policies c.steps es end

-- the world of the request at the end, over the whole store
abbrev pub end_world : Course → List Entry → World
end_world c es = world_now (session_of c) (end_state c.steps es)

-- the world with a value for each unknown that has none
abbrev pub with_unknowns : World → World
with_unknowns w = record w { unknowns = λ n. Some (unwrap_or (w.unknowns n) (truth_value false)) }

-- The world at the end of an answered run completes each state on the way.
abbrev pub AnsweredRunsAreCompleted : Type 0
AnsweredRunsAreCompleted = (c : Course) (es : List Entry) (a : Answer) → IsProper c → MayRun c es (answered a) → CompletesNow (session_of c) (end_state c.steps es) (with_unknowns (end_world c es))

-- each decision that is given on the way is that of the answer
abbrev pub GivenDecisionsAreTheAnswers : Type 0
GivenDecisionsAreTheAnswers = (c : Course) (es : List Entry) (a : Answer) (d : Decision) → IsProper c → MayRun c es (answered a) → Contains es (decided (Some d)) → d ≡ a.decision

-- What was loaded by the end, as a whole store: the declared actions and the entities that were asked for and are there, and nothing else.
abbrev pub loaded_world : Course → List Entry → World
loaded_world c es =
    record (end_world c es) { store = λ u. if declares_action (schema_in c.submission) u || list_any (uid_eq u) (end_state c.steps es).asked then whole_store (session_of c) u else missing }

-- The answer is that of the whole store, whatever stands in it, and that of what was loaded.
abbrev pub AnswersAreTheWholeStores : Type 0
AnswersAreTheWholeStores = (c : Course) (es : List Entry) (a : Answer) → MayRun c es (answered a) → a ≡ answer_of (end_world c es) c.submission.policies

abbrev pub AnswersNeedTheLoadedAlone : Type 0
AnswersNeedTheLoadedAlone = (c : Course) (es : List Entry) (a : Answer) → IsProper c → MayRun c es (answered a) → a ≡ answer_of (loaded_world c es) c.submission.policies

-- its errors are missing entities, overflows, zero divisors and failures of extensions
abbrev pub ErrorsAreExpected : Type 0
ErrorsAreExpected = (c : Course) (es : List Entry) (a : Answer) (e : PolicyError) → IsProper c → MayRun c es (answered a) → Contains a.errors e → IsExpected e.fault

-- All is bound and loaded: the request conforms, and nothing is wanted.
pub record IsReady (c : Course) (s : State) : Type 0 where
  pub bound : HasOpenName c.start s → ⊥
  pub loaded : NothingIsWanted (session_of c) s
  pub conforms : RequestConforms (schema_in c.submission) (request_of (world_now (session_of c) s))

-- then a decision that is asked for is given
abbrev pub ReadyDecisionsAreOwed : Type 0
ReadyDecisionsAreOwed = (c : Course) (before after : List Entry) (d : Option Decision) (end : End) → IsProper c → MayRun c (before ++ decided d ∷ after) end → IsReady c (end_state c.steps before) → IsSome d

-- What a run did, a refused one too, is legal against each world that completes its last state.
abbrev pub ProperRunsAreLegal : Type 0
ProperRunsAreLegal = (c : Course) (es : List Entry) (end : End) → IsProper c → MayRun c es end
    → (w : World) → CompletesNow (session_of c) (end_state c.steps es) w → AreLegal (case_of (session_of c) c.submission.policies) w at_first es

-- What evaluating in part gives: where it gives no decision, none is owed. The store is what is known of it, with the values as they are made.
abbrev pub ForcedDecisionsAreGiven : Type 0
ForcedDecisionsAreGiven = (c : Course) (s : State) (store : Uid → Found Made) → IsAdmitted c → ((u : Uid) → known_found (store u) ≡ (known_now (session_of c) s).store u)
    → decision_in_session (response_of (scope_now (session_of c) s store) c.submission.limit c.submission.policies) ≡ None → MayDecide (session_of c) c.submission.policies s None

-- Fair functions, each with a result type, whose calls answer as the table does: each extension value in what they make is what its call
-- gives.
pub record AnswerFairly (x : Functions) : Type 0 where
  pub fair : IsFair x.table
  pub typed : all_typed x.table ≡ true
  pub agrees : Agrees (with_functions x)
  pub represented : (f : Name) (ms : List Made) (m : Made) → IsTaken x.table f (map bare ms) → x.calls f ms ≡ makes m → IsRepresented x.table m

-- Such functions make values.
pub record MakeFairly (x : Functions) : Type 0 where
  pub answers : AnswerFairly x
  pub values : MakeValues x.calls

-- each name was bound after those before it, without a refusal, to a value as it is written
abbrev pub AreBound : Setup → List (Text × Made) → Type 0
AreBound x [] = Unit {0}
AreBound x (b ∷ bs) = AreBound x bs × ((f : BindRefusal) → BindFault x (record { bound = bs; asked = [] }) b.0 b.1 f → ⊥) × IsWellMade x.functions.table b.1

-- The session opened, and bound its names.
pub record IsOpened (x : Setup) (s : State) : Type 0 where
  pub opened : (f : OpenRefusal) → OpenFault x.start f → ⊥
  pub bound : AreBound x s.bound

-- so is the session at each decision on the way of a run
abbrev pub DecidingSessionsAreOpened : Type 0
DecidingSessionsAreOpened = (c : Course) (before after : List Entry) (d : Option Decision) (end : End) → IsProper c → MayRun c (before ++ decided d ∷ after) end → IsOpened (session_of c) (end_state c.steps before)

-- what evaluating stands on, in a session of the course
abbrev pub IsKnownStore : Course → State → (Uid → Found Made) → Type 0
IsKnownStore c = IsKnownBy (session_of c)

-- Where free names mean what is given, the context as it is now is a record, if an expression is left of it.
abbrev pub ContextIsPossible : Setup → State → (Text → V) → Type 0
ContextIsPossible x s given = (fs : TreeFields) → context_now x.functions s x.start.context ≡ residual_fields fs
    → (v : V) × ((w : World) → w.table ≡ x.functions.table → ((n : Text) → is_free_name n ≡ true → w.unknowns n ≡ Some (given n)) → PartIs w (record_literal fs) v)

-- Then what a session's evaluation knows has a completion, whatever was bound and asked for by then.
abbrev pub SessionsHaveCompletions : Type 0
SessionsHaveCompletions = (c : Course) (s : State) (store : Uid → Found Made) (given : Text → V) → IsAdmitted c → IsOpened (session_of c) s → IsKnownStore c s store
    → ((n : Text) → is_free_name n ≡ true → Keeps (option_map bare (value_of s n)) (Some (given n))) → ContextIsPossible (session_of c) s given
    → (w : World) × evaluator.Completes w (scope_now (session_of c) s store)

-- For each world that completes the state of a session there is one that completes what its evaluation knows, with the same answer.
abbrev pub SessionsAreCompleted : Type 0
SessionsAreCompleted = (c : Course) (s : State) (store : Uid → Found Made) → IsAdmitted c → MakeFairly c.functions → IsOpened (session_of c) s → IsKnownStore c s store
    → (w : World) → CompletesNow (session_of c) s w
    → (v : World) × evaluator.Completes v (scope_now (session_of c) s store) × (answer_of v c.submission.policies ≡ answer_of w c.submission.policies)

-- A decision that evaluating in part gives is that of every completion of the state.
abbrev pub EvaluatedDecisionsHold : Type 0
EvaluatedDecisionsHold = (c : Course) (s : State) (store : Uid → Found Made) → IsAdmitted c → MakeFairly c.functions → IsOpened (session_of c) s → IsKnownStore c s store
    → (d : Decision) → decision_in_session (response_of (scope_now (session_of c) s store) c.submission.limit c.submission.policies) ≡ Some d → MayDecide (session_of c) c.submission.policies s (Some d)

-- What evaluating in part decides, or that it decides nothing, may be given; so each run is one with decisions that may be given.
abbrev pub RunsMayBe : Type 0
RunsMayBe = (c : Course) (es : List Entry) (end : End) → IsProper c → MakeFairly c.functions → IsRun c es end → MayRun c es end

-- the course of a bundle
abbrev pub course_of : Functions → Bundle → Course
course_of x b = record { submission = b.submission; functions = x; start = b.start; store = λ u. lookup (uid_eq u) b.store; steps = b.steps }

-- the course of a bundle that is read and accepted is proper
abbrev pub BundlesAreProper : Type 0
BundlesAreProper = (x : Functions) (d : Data) (b : Bundle) → MakeFairly x → bundle_read x d ≡ Some b → IsAccepted b.submission → IsProper (course_of x b)
