-- What is said of a bundle.
-- Rule: the acceptance rules; statuses and refusal numbers (docs/RULES.md).
use Rattle.std.specs.Prelude.{◌≡◌, [], ◌∷◌, ℕ, List, Option, Some, None, false, string_bytes}
use Rattle.cedar_expr_model.specs.Lists.{is_nil}
use Rattle.cedar_expr_model.specs.Name.{Text}
use Rattle.cedar_gate_accepted.specs.Causes.{gate_fault_number, is_memory}
use Rattle.cedar_gate_accepted.specs.declared.fault.GateFault.{GateFault}
use Rattle.cedar_gate_model.specs.Acceptance.{Submission, IsAccepted}
use Rattle.cedar_gate_model.specs.Bundle.{Bundle}
use Rattle.cedar_gate_runs.specs.declared.status.Status.{Status}
use Rattle.cedar_gate_runs.specs.declared.status.Status.TheVariants.{Answered, Refused, Unreadable, Stopped}
use Rattle.cedarcheck.specs.Faults.{HasNumbers, numbers_in}
use Rattle.cedarcheck.specs.Lines.{AreRefusals}
use Rattle.cedarcheck.specs.declared.report.Report.{Report}

-- With a status, numbers of faults and a text: what is refused has a fault of each number, there is one, and the text has the lines of
-- these; what isn't is accepted, and no fault is told.
abbrev pub ExplainsBy : Submission → Status → List ℕ → Text → Type 0
ExplainsBy s Refused ns text = HasNumbers s ns × (is_nil ns ≡ false) × AreRefusals ns text
ExplainsBy s Answered ns text = IsAccepted s × (ns ≡ [])
ExplainsBy s Unreadable ns text = ⊥
ExplainsBy s Stopped ns text = ⊥

-- of what is handed to the gate
abbrev pub ExplainsSubmission : Submission → Report → Type 0
ExplainsSubmission s r = ExplainsBy s r.status (numbers_in r.found.items) (string_bytes r.text)

-- No fault is told of what doesn't read.
abbrev pub IsUnreadable : Report → Type 0
IsUnreadable r = (r.status ≡ Unreadable) × (r.found.items ≡ [])

-- of an input, which is a bundle or none
abbrev pub Explains : Option Bundle → Report → Type 0
Explains None r = IsUnreadable r
Explains (Some b) r = ExplainsSubmission b.submission r

-- The one fault that is told is this one, which isn't out of memory.
pub record IsRefusalOf (f : GateFault) (r : Report) : Type 0 where
  pub told : is_memory f ≡ false
  pub status : r.status ≡ Refused
  pub number : numbers_in r.found.items ≡ gate_fault_number f ∷ []
  pub line : AreRefusals (gate_fault_number f ∷ []) (string_bytes r.text)
