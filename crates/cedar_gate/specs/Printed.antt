-- What is printed for runs of the code.
-- Rule: the lines; statuses and refusal numbers (docs/RULES.md).
use Rattle.std.specs.Prelude.{◌≡◌, ◌++◌, List, Some, String, false, map, option_map, string_bytes}
use Rattle.cedar_expr_model.specs.Name.{Text}
use Rattle.cedar_expr_model.specs.Uid.{Uid}
use Rattle.cedar_expr_model.specs.Made.{Made}
use Rattle.cedar_evaluator_requests.specs.declared.request.Request.{Request}
use Rattle.cedar_store_entities.specs.Stores.{store_made}
use Rattle.cedar_store_entities.specs.Views.{bare_entity}
use Rattle.cedar_store_entities.specs.declared.entities.Entities.{Entities}
use Rattle.cedar_store_model.specs.World as world
use Rattle.cedar_store_model.specs.World.{held}
use Rattle.cedar_store_parts.specs.Parts.{id_text}
use Rattle.cedar_evaluator_model.specs.OfLaws.WellMade.{IsContextMadeWell, IsFoundMadeWell}
use Rattle.cedar_evaluator_requests.specs.Views.{request_of}
use Rattle.cedar_gate_bundles.specs.Bundles.{bundle_of}
use Rattle.cedar_gate_bundles.specs.Written.{IsStoreWritten}
use Rattle.cedar_gate_bundles.specs.declared.bundle.Bundle.{Bundle}
use Rattle.cedar_gate_model.specs.Acceptance.{IsAccepted, warnings_of}
use Rattle.cedar_evaluator_model.specs.Functions.{Functions}
use Rattle.cedar_gate_model.specs.Lines.{Status, entry_lines, end_lines, end_status, refused_line, warning_lines}
use Rattle.cedar_gate_model.specs.Runs.{End}
use Rattle.cedar_gate_model.specs.RunsAnswer.{Course, IsProper, IsRun, course_of}
use Rattle.cedar_gate_model.specs.Transcript.{Entry}
use Rattle.cedar_gate_accepted.specs.Causes.{is_memory, gate_fault_number}
use Rattle.cedar_gate_accepted.specs.declared.fault.GateFault.{GateFault}
use Rattle.cedar_gate_runs.specs.Hosts.{stored}
use Rattle.cedar_gate_runs.specs.Statuses.{status_of}
use Rattle.cedar_gate_runs.specs.declared.steps.Step.{Step}
use Rattle.cedar_gate_runs.specs.declared.status.Status as code
use Rattle.cedar_gate_runs.specs.declared.status.Status.TheVariants.{Answered, Refused, Unreadable, Stopped}
use Rattle.cedar_gate.specs.Courses.{IsCourseOf}
use Rattle.cedar_gate.specs.Gates.{warned_of}
use Rattle.cedar_gate.specs.declared.gate.Gate.{Gate}
use Rattle.cedar_gate.specs.declared.printing.Printed.{Printed}

-- The store of the course has exactly these entities, and their values are as they are written.
pub record IsStore (c : Course) (es : Entities) : Type 0 where
  pub each : (u : Uid) → c.store u ≡ option_map bare_entity (stored (store_made es) u)
  pub written : (u : Uid) (e : world.Entity Made) → stored (store_made es) u ≡ Some e → IsFoundMadeWell c.functions.table (held e)

-- The course is one of a request and steps at the gate, over this store; the gate warns of what the course warns of.
pub record IsServedBy {B : _} {F : _} {γ : _} (g : Gate B F γ) (q : Request) (given : List Step) (es : Entities) (c : Course) : Type 0 where
  pub course : IsCourseOf g q given c
  pub warned : map id_text (warned_of g) ≡ warnings_of c.submission
  pub store : IsStore c es

-- The values in what was read are as they are written, and its course is proper where it is accepted.
pub record IsReadWell (x : Functions) (b : Bundle) : Type 0 where
  pub proper : IsAccepted (bundle_of x b).submission → IsProper (course_of x (bundle_of x b))
  pub context : IsContextMadeWell x.table (request_of b.request).context
  pub store : IsStoreWritten x.table b.store

-- the lines of a run of the course, with its status
abbrev pub PrintsRunOf : Course → Status → Text → Type 0
PrintsRunOf c status text = (es : List Entry) × (end : End) × IsRun c es end × (status ≡ end_status end) × (text ≡ entry_lines 1 es ++ end_lines end)

-- The lines of a run of the course were appended.
pub record AddsRun (c : Course) (status : Status) (before after : Text) : Type 0 where
  pub text : Text
  pub prints : PrintsRunOf c status text
  pub added : after ≡ before ++ text

-- These are the lines of the warnings and of a run of the course.
pub record PrintsAccepted (c : Course) (status : Status) (text : Text) : Type 0 where
  pub run : Text
  pub prints : PrintsRunOf c status run
  pub all : text ≡ warning_lines c.submission ++ run

-- the lines of a run of the course, with its status, were appended to a text
abbrev pub AppendsRun : {Z : Type 0} → Course → code.Status → String Z → String Z → Type 0
AppendsRun c status old new = AddsRun c (status_of status) (string_bytes old) (string_bytes new)

-- what is printed is what this says may be
abbrev pub IsPrinted : (Status → Text → Type 0) → Printed → Type 0
IsPrinted May p = May (status_of p.status) (string_bytes p.text)

-- a refusal is printed, of a fault other than out of memory
abbrev pub IsRefusal : GateFault → Printed → Type 0
IsRefusal f p = (is_memory f ≡ false) × (p.status ≡ Refused) × (string_bytes p.text ≡ refused_line (gate_fault_number f))

-- the statuses of runs: answered, or stopped
abbrev pub IsOfRun : code.Status → Type 0
IsOfRun Answered = Unit {0}
IsOfRun Stopped = Unit {0}
IsOfRun Refused = ⊥
IsOfRun Unreadable = ⊥
