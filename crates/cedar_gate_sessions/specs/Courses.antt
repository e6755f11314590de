-- At which state of which course a session of the code is, and what holds there.
-- Rule: runs; sessions (docs/RULES.md).
use Rattle.std.specs.Prelude.{◌≡◌, List}
use Rattle.cedar_store_model.specs.Policy.{Policy}
use Rattle.cedar_evaluator_requests.specs.declared.request.Request.{Request}
use Rattle.cedar_gate_model.specs.RunsAnswer.{Course, session_of, IsAdmitted, AnswerFairly}
use Rattle.cedar_gate_model.specs.Session.{Setup, State, NothingIsWanted}
use Rattle.cedar_gate_runs.specs.Courses.{GivesAnswer}
use Rattle.cedar_gate_sessions.specs.Sessions.{IsAt, IsSetup, policies_in}
use Rattle.cedar_gate_sessions.specs.declared.session.SessionAt.{SessionAt}

-- The course is admitted, its functions answer fairly, and the session is at the state, over its policies.
pub record Stands {G : Type 0} (suits : G → Setup → Type 0) (accepted : G → List Policy) (c : Course) (s : State) (e : SessionAt G) : Type 0 where
  pub admitted : IsAdmitted c
  pub fair : AnswerFairly c.functions
  pub at : IsAt suits (session_of c) s e
  pub policies : policies_in accepted e ≡ c.submission.policies

-- in each course of a request at a gate: one that is admitted, with the gate's policies and with functions that answer fairly
abbrev pub InEachCourseOf : {G : Type 0} → (G → Setup → Type 0) → (G → List Policy) → G → Request → (Course → Type 0) → Type 0
InEachCourseOf suits accepted g q holds = (c : Course) → IsSetup suits (session_of c) g q → IsAdmitted c → AnswerFairly c.functions → accepted g ≡ c.submission.policies → holds c

-- at each state of a course of the session's policies that the session is at
abbrev pub InEachCourse : {G : Type 0} → (G → Setup → Type 0) → (G → List Policy) → SessionAt G → (Course → State → Type 0) → Type 0
InEachCourse suits accepted e holds = (c : Course) (s : State) → IsAt suits (session_of c) s e → policies_in accepted e ≡ c.submission.policies → holds c s

-- the same of courses that are admitted, with functions that answer fairly
abbrev pub InEachFairCourse : {G : Type 0} → (G → Setup → Type 0) → (G → List Policy) → SessionAt G → (Course → State → Type 0) → Type 0
InEachFairCourse suits accepted e holds = InEachCourse suits accepted e (λ c s. IsAdmitted c → AnswerFairly c.functions → holds c s)

-- the same of courses that are admitted, whatever their functions answer
abbrev pub InEachAdmittedCourse : {G : Type 0} → (G → Setup → Type 0) → (G → List Policy) → SessionAt G → (Course → State → Type 0) → Type 0
InEachAdmittedCourse suits accepted e holds = (c : Course) (s : State) → IsAdmitted c → IsAt suits (session_of c) s e → policies_in accepted e ≡ c.submission.policies → holds c s

-- where nothing is wanted, and there is no refusal to answer
abbrev pub WhereAnswerable : Course → State → Type 0 → Type 0
WhereAnswerable c s holds = NothingIsWanted (session_of c) s → GivesAnswer c s → holds
