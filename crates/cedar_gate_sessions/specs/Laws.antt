-- What the laws of decisions and answers say.
-- Rule: runs; owed decisions; the answer (docs/RULES.md).
use Rattle.std.specs.Prelude.{◌≡◌, ◌||◌, ℕ, List, All, Contains, Option, Some, if◌then◌else◌}
use Rattle.std.specs.List.{list_any}
use Rattle.cedar_expr_model.specs.Uid.{Uid, uid_eq}
use Rattle.cedar_expr_model.specs.ListLaws.{AreDistinct}
use Rattle.cedar_expr_model.specs.Made.{Made}
use Rattle.cedar_expr_model.specs.Value.{V}
use Rattle.cedar_store_model.specs.Policy.{Policy}
use Rattle.cedar_store_model.specs.Answer.{Decision, ids, answer_of}
use Rattle.cedar_store_model.specs.World.{Entity, Found, missing}
use Rattle.cedar_schema_model.specs.Schema.{declares_action}
use Rattle.cedar_schema_model.specs.Conforming.{EntityConforms}
use Rattle.cedar_evaluator_model.specs.Known.{known_found, known_world}
use Rattle.cedar_evaluator_model.specs.Laws.{WithinLimit, as_concrete}
use Rattle.cedar_evaluator_model.specs.Members.{decision_in_session}
use Rattle.cedar_evaluator_model.specs.OfLaws.Calls.{Agrees}
use Rattle.cedar_evaluator_model.specs.OfLaws.Whole.{NothingUnknown, AllLoaded}
use Rattle.cedar_evaluator_model.specs.Response.{response_of}
use Rattle.cedar_evaluator_model.specs.Scope.{Scope}
use Rattle.cedar_gate_model.specs.Acceptance.{Submission, IsAccepted}
use Rattle.cedar_gate_model.specs.Runs.{MayDecide}
use Rattle.cedar_gate_model.specs.RunsAnswer.{Course, session_of, IsAdmitted, MakeFairly, IsOpened, IsKnownStore}
use Rattle.cedar_gate_model.specs.Session.{Setup, State, scope_now, world_now, whole_store, NothingIsWanted, AnswerRefusal, AnswerFault}
use Rattle.cedar_gate_sessions.specs.Answers.{answered}

-- The decision that evaluating in part gives, or that it gives none, may be given: where the submission is accepted, the functions are fair
-- and make their values as they are written, the session opened and bound its names, and the store is what is known of it.
abbrev pub DecisionsMayBeGiven : Type 0
DecisionsMayBeGiven = (c : Course) (s : State) (store : Uid → Found Made) → IsAdmitted c → MakeFairly c.functions → IsOpened (session_of c) s → IsKnownStore c s store
    → (d : Option Decision) → d ≡ decision_in_session (response_of (scope_now (session_of c) s store) c.submission.limit c.submission.policies) → MayDecide (session_of c) c.submission.policies s d

-- The policies of an accepted submission have distinct ids, and are within its limit, whatever is known.
abbrev pub AcceptedIdsAreDistinct : Type 0
AcceptedIdsAreDistinct = (b : Submission) → IsAccepted b → AreDistinct (ids b.policies)

abbrev pub AcceptedAreWithin : Type 0
AcceptedAreWithin = (b : Submission) → IsAccepted b → (s : Scope) → All (WithinLimit s b.limit) b.policies

-- Where nothing is unknown, everything is loaded and the policies are within the limit, the answer that evaluations leave is the answer.
abbrev pub AnsweredIsTheAnswer : Type 0
AnsweredIsTheAnswer = (s : Scope) → Agrees s → NothingUnknown s → AllLoaded s → (n : ℕ) (ps : List Policy) → All (WithinLimit s n) ps → answered s n ps ≡ as_concrete (answer_of (known_world s) ps)

-- what was answered conforms
abbrev pub Conform : Setup → State → Type 0
Conform x s = (u : Uid) (e : Entity V) → Contains s.asked u → x.store u ≡ Some e → EntityConforms x.schema u e

-- What was loaded, as a whole store: the declared actions and the entities that were asked for and are there, and nothing else.
abbrev pub loaded_store : Setup → State → Uid → Found V
loaded_store x s u = if declares_action x.schema u || list_any (uid_eq u) s.asked then whole_store x u else missing

-- Where nothing is refused, the answer that evaluations over what was loaded leave is the answer over the whole store.
abbrev pub SessionsAnswer : Type 0
SessionsAnswer = (c : Course) (s : State) (store : Uid → Found Made) → IsAdmitted c → IsOpened (session_of c) s → Conform (session_of c) s → NothingIsWanted (session_of c) s → ((f : AnswerRefusal) → AnswerFault (session_of c) s f → ⊥)
    → ((u : Uid) → known_found (store u) ≡ loaded_store (session_of c) s u) → answered (scope_now (session_of c) s store) c.submission.limit c.submission.policies ≡ as_concrete (answer_of (world_now (session_of c) s) c.submission.policies)
