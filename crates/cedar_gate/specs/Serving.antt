-- What the service comes to.
-- Rule: the lines; statuses and refusal numbers (docs/RULES.md).
use Rattle.std.specs.Prelude.{◌≡◌, ◌<◌, ℕ, List, Option, Some, None, length, take, Result, Ok, Err}
use Rattle.std.specs.Io.KnownBytes.{Appends}
use Rattle.cedar_expr_functions.specs.declared.extensions.Extensions.{Extensions}
use Rattle.cedar_expr_model.specs.Name.{Text}
use Rattle.cedar_evaluator_restricted_exprs.specs.Answers.{AgreesWith}
use Rattle.cedar_gate_model.specs.Acceptance.{Cause, HasFault, IsAccepted, number_of}
use Rattle.cedar_evaluator_model.specs.Functions.{Functions}
use Rattle.cedar_gate_model.specs.Bundle.{Bundle}
use Rattle.cedar_gate_model.specs.Lines as lines
use Rattle.cedar_gate_model.specs.ReadingBundle.{input_read}
use Rattle.cedar_gate_runs.specs.Statuses.{status_of}
use Rattle.cedar_gate_runs.specs.declared.status.Status.{Status}
use Rattle.cedar_gate.specs.Courses.{IsFair}
use Rattle.cedar_gate.specs.declared.faults.ServeFault.{ServeFault}
use Rattle.cedar_gate.specs.declared.faults.ServeFault.TheVariants.{Memory, Read, Write}

abbrev pub serve_fault_number : ServeFault → ℕ
serve_fault_number Memory = 0
serve_fault_number Read = 1
serve_fault_number Write = 2

-- What is written, where this says which texts may be printed with which status: all of such a text, or where the writer fails a
-- beginning of one.
abbrev pub ServeGives : (lines.Status → Text → Type 0) → Option (List ℕ) → Option (List ℕ) → Result Status ServeFault → Type 0
ServeGives May old new (Ok status) = (text : Text) × May (status_of status) text × Appends old new text
ServeGives May old new (Err Write) = (status : lines.Status) × (text : Text) × May status text × (n : ℕ) × (n < length text) × Appends old new (take n text)
ServeGives May old new (Err Memory) = Unit {0}
ServeGives May old new (Err Read) = Unit {0}

-- Whatever the functions answer: an input that is no bundle is unreadable, a refusal names a fault that is there, and only what is
-- accepted is run.
abbrev pub Judged : Option Bundle → lines.Status → Text → Type 0
Judged None status text = (status ≡ lines.is_unreadable) × (text ≡ lines.unreadable_line)
Judged (Some b) lines.is_refused text = (c : Cause) × HasFault c b.submission × (text ≡ lines.refused_line (number_of c))
Judged (Some b) lines.is_unreadable text = ⊥
Judged (Some b) lines.is_answered text = IsAccepted b.submission
Judged (Some b) lines.is_stopped text = IsAccepted b.submission

-- What is served from a reader with these bytes left: by any functions by which the table is fair, and by any with which it agrees.
abbrev pub ServesFair : {B : _} {F : _} {g : _} → (Functions → Option Bundle → lines.Status → Text → Type 0) → Extensions B F g → Option (List ℕ) → Option (List ℕ) → Option (List ℕ) → Result Status ServeFault → Type 0
ServesFair May t input old new r = (bytes : List ℕ) (x : Functions) → input ≡ Some bytes → IsFair t x → ServeGives (May x (input_read x bytes)) old new r

abbrev pub ServesAny : {B : _} {F : _} {g : _} → (Option Bundle → lines.Status → Text → Type 0) → Extensions B F g → Option (List ℕ) → Option (List ℕ) → Option (List ℕ) → Result Status ServeFault → Type 0
ServesAny May t input old new r = (bytes : List ℕ) (x : Functions) → input ≡ Some bytes → AgreesWith t x → ServeGives (May (input_read x bytes)) old new r

-- a fault other than that of the writer
abbrev pub LeavesAlone : ServeFault → Type 0 → Type 0
LeavesAlone Memory P = P
LeavesAlone Read P = P
LeavesAlone Write P = Unit {0}

-- the faults of reading
abbrev pub IsOfReading : ServeFault → Type 0
IsOfReading Memory = Unit {0}
IsOfReading Read = Unit {0}
IsOfReading Write = ⊥
