-- Which courses are run at a gate.
-- Rule: runs; the acceptance rules; extension functions (docs/RULES.md).
pub use Rattle.cedar_gate_runs.specs.Courses.{CourseOpens}
use Rattle.std.specs.Prelude.{◌≡◌, true, List, Some}
use Rattle.cedar_expr_functions.specs.declared.extensions.Extensions.{Extensions}
use Rattle.cedar_expr_model.specs.Uid.{Uid}
use Rattle.cedar_expr_model.specs.Value.{V}
use Rattle.cedar_store_model.specs.Knowledge.{holds_values}
use Rattle.cedar_store_model.specs.World.{Entity}
use Rattle.cedar_evaluator_model.specs.OfLaws.WellMade.{IsContextRepresented}
use Rattle.cedar_evaluator_requests.specs.Views.{request_of}
use Rattle.cedar_evaluator_requests.specs.declared.request.Request.{Request}
use Rattle.cedar_evaluator_restricted_exprs.specs.Answers.{AgreesWith}
use Rattle.cedar_evaluator_model.specs.Functions.{Functions}
use Rattle.cedar_gate_model.specs.RunsAnswer.{Course, AnswerFairly}
use Rattle.cedar_gate_model.specs.Session.{at_start}
use Rattle.cedar_gate_runs.specs.Courses.{BindRepresented, IsHost}
use Rattle.cedar_gate_runs.specs.Hosts.{Answers}
use Rattle.cedar_gate_runs.specs.Steps.{steps_of}
use Rattle.cedar_gate_runs.specs.declared.steps.Step.{Step}
use Rattle.cedar_gate.specs.Gates.{IsOf, table_held}
use Rattle.cedar_gate.specs.declared.gate.Gate.{Gate}

-- The table is fair: it agrees with these functions, which answer fairly.
pub record IsFair {B : _} {F : _} {g : _} (t : Extensions B F g) (x : Functions) : Type 0 where
  pub agrees : AgreesWith t x
  pub fair : AnswerFairly x

-- The course is one of a request and steps at the gate, by functions by which the gate's table is fair. The extension values of
-- the context and of the steps are what the calls of its table give, and the store holds values alone.
pub record IsCourseOf {B : _} {F : _} {γ : _} (g : Gate B F γ) (q : Request) (given : List Step) (c : Course) : Type 0 where
  pub submission : IsOf g c.submission
  pub table : c.functions.table ≡ c.submission.table
  pub fair : IsFair (table_held g) c.functions
  pub start : request_of q ≡ c.start
  pub context : IsContextRepresented c.functions.table c.start.context
  pub steps : steps_of given ≡ c.steps
  pub bound : BindRepresented c c.steps
  pub store : (u : Uid) (e : Entity V) → c.store u ≡ Some e → holds_values e ≡ true

-- The host's store is that of such a course.
pub record IsRunAt {B : _} {F : _} {γ : _} {H : Type 0} (g : Gate B F γ) (q : Request) (given : List Step) (answers : H → Answers) (h : H) (c : Course) : Type 0 where
  pub course : IsCourseOf g q given c
  pub host : IsHost answers c at_start c.steps h

-- for each course of a request at the gate, and for each with these steps whose store is the host's
abbrev pub InEachCourseAt : {B : _} {F : _} {γ : _} → Gate B F γ → Request → (Course → Type 0) → Type 0
InEachCourseAt g q holds = (c : Course) (given : List Step) → IsCourseOf g q given c → holds c

abbrev pub InEachRunAt : {B : _} {F : _} {γ : _} {H : Type 0} → Gate B F γ → Request → List Step → (H → Answers) → H → (Course → Type 0) → Type 0
InEachRunAt g q given answers h holds = (c : Course) → IsRunAt g q given answers h c → holds c
