-- What a run promises, in one statement.
-- Rule: runs; the slice; the answer; the lines (docs/RULES.md).
use Rattle.std.specs.Prelude.{◌≡◌, ◌↔◌, ◌≤◌, ◌++◌, ◌∷◌, ℕ, List, Contains, length, Option, Some, None, IsSome}
use Rattle.cedar_expr_model.specs.Name.{Text}
use Rattle.cedar_expr_model.specs.Uid.{Uid}
use Rattle.cedar_store_model.specs.Answer.{Decision, Answer, PolicyError, answer_of}
use Rattle.cedar_store_model.specs.World.{World}
use Rattle.cedar_schema_model.specs.BagLaws.{HasTwice}
use Rattle.cedar_typechecker_model.specs.Soundness.{IsExpected}
use Rattle.cedar_gate_model.specs.Acceptance.{IsAccepted, Cause, HasFault, number_of}
use Rattle.cedar_evaluator_model.specs.Functions.{Functions}
use Rattle.cedar_gate_model.specs.Bundle.{Bundle}
use Rattle.cedar_gate_model.specs.GateLaws.{asked_in, last_rounds}
use Rattle.cedar_gate_model.specs.Lines.{Status, is_answered, is_refused, is_unreadable, is_stopped, end_status, run_lines, refused_line, unreadable_line, Prints}
use Rattle.cedar_gate_model.specs.ReadingBundle.{input_read}
use Rattle.cedar_gate_model.specs.RunLaws.{case_of}
use Rattle.cedar_gate_model.specs.Runs.{End, answered, opening_refused, supply_refused, binding_refused, answer_refused}
use Rattle.cedar_gate_model.specs.RunsAnswer.{Course, session_of, course_of, IsProper, IsRun, MakeFairly, IsReady, end_world}
use Rattle.cedar_gate_model.specs.RunsAsk.{end_state}
use Rattle.cedar_gate_model.specs.Session.{world_now, CompletesNow}
use Rattle.cedar_typechecker_model.specs.Slice.{InSlice}
use Rattle.cedar_gate_model.specs.Transcript.{Entry, decided, IsLegal}

-- The uid lies fewer steps away from the request than the level says, over the whole store, by what was bound at the end of the run.
abbrev pub IsNear : Course → List Entry → Uid → Type 0
IsNear c es u = InSlice (session_of c).schema c.submission.level (world_now (session_of c) (end_state c.steps es)) u

-- What an answered run promises. It asked for exactly what is near. The answer is that of the whole store, each earlier decision is that
-- one, and each error is a missing entity, an overflow, a zero divisor or an extension's.
pub record AnsweredWell (c : Course) (es : List Entry) (a : Answer) : Type 0 where
  pub asked : (u : Uid) → Contains (asked_in es) u ↔ IsNear c es u
  pub answer : a ≡ answer_of (end_world c es) c.submission.policies
  pub early : (d : Decision) → Contains es (decided (Some d)) → d ≡ a.decision
  pub errors : (e : PolicyError) → Contains a.errors e → IsExpected e.fault

-- The transcript of these entries and this answer, if any, is legal against each world that completes what was bound and answered by then.
abbrev pub IsLegalSoFar : Course → List Entry → Option Answer → Type 0
IsLegalSoFar c es a =
    (w : World) → CompletesNow (session_of c) (end_state c.steps es) w → IsLegal (case_of (session_of c) c.submission.policies) w (record { entries = es; answer = a })

-- What each run promises, with the answer that it came to or, where it stopped, without one. What is handed in is accepted. No uid is asked
-- for twice, only what is near is, and few rounds follow the last binding. A decision is owed once all is bound and loaded. The transcript
-- is legal.
pub record KeepsPromises (c : Course) (es : List Entry) (answer : Option Answer) : Type 0 where
  pub admitted : IsAccepted c.submission
  pub once : HasTwice (asked_in es) → ⊥
  pub near : (u : Uid) → Contains (asked_in es) u → IsNear c es u
  pub few : length (last_rounds es) ≤ c.submission.level
  pub owed : (before after : List Entry) (d : Option Decision) → es ≡ before ++ decided d ∷ after → IsReady c (end_state c.steps before) → IsSome d
  pub legal : IsLegalSoFar c es answer
  pub whole : (a : Answer) → answer ≡ Some a → AnsweredWell c es a

-- the answer that a run ends with
abbrev pub answer_in : End → Option Answer
answer_in (answered a) = Some a
answer_in (opening_refused f) = None
answer_in (supply_refused f) = None
answer_in (binding_refused f) = None
answer_in (answer_refused f) = None

-- Each run of a proper course keeps the promises, where the functions make their values as they are written.
abbrev pub Headline : Type 0
Headline = (c : Course) (es : List Entry) (end : End) → IsProper c → MakeFairly c.functions → IsRun c es end → KeepsPromises c es (answer_in end)

-- the lines of a run that keeps the promises
abbrev pub PromisesRun : Functions → Bundle → Status → Text → Type 0
PromisesRun f b status text =
    (es : List Entry) × (end : End) × KeepsPromises (course_of f b) es (answer_in end) × (status ≡ end_status end) × (text ≡ run_lines b es end)

-- What is promised of what is printed for an input.
abbrev pub Promises : Functions → Option Bundle → Status → Text → Type 0
Promises f None status text = (status ≡ is_unreadable) × (text ≡ unreadable_line)
Promises f (Some b) is_refused text = (c : Cause) × HasFault c b.submission × (text ≡ refused_line (number_of c))
Promises f (Some b) is_unreadable text = ⊥
Promises f (Some b) is_answered text = PromisesRun f b is_answered text
Promises f (Some b) is_stopped text = PromisesRun f b is_stopped text

-- What may be printed for an input keeps the promises, where the functions make values fairly.
abbrev pub PrintedIsPromised : Type 0
PrintedIsPromised = (f : Functions) (bytes : List ℕ) (status : Status) (text : Text) → MakeFairly f → Prints f (input_read f bytes) status text → Promises f (input_read f bytes) status text
