-- Statuses and their numbers.
-- Rule: statuses and refusal numbers (docs/RULES.md).
use Rattle.std.specs.Prelude.{ℕ}
use Rattle.cedar_gate_model.specs.Lines as model
use Rattle.cedar_gate_runs.specs.declared.status.Status.{Status}
use Rattle.cedar_gate_runs.specs.declared.status.Status.TheVariants.{Answered, Refused, Unreadable, Stopped}

abbrev pub status_number : Status → ℕ
status_number Answered = 0
status_number Refused = 1
status_number Unreadable = 2
status_number Stopped = 3

abbrev pub status_of : Status → model.Status
status_of Answered = model.is_answered
status_of Refused = model.is_refused
status_of Unreadable = model.is_unreadable
status_of Stopped = model.is_stopped
