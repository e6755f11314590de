-- What a call from C comes to.
-- Rule: the lines; statuses and refusal numbers (docs/RULES.md).
use Rattle.std.specs.Prelude.{◌≡◌, ◌≤◌, ◌<◌, ℕ, List, length, take, drop}
use Rattle.cedar_expr_model.specs.Name.{Text}
use Rattle.cedar_gate_model.specs.Lines.{Status, is_answered, is_refused, is_unreadable, is_stopped}
use Rattle.cedargate_functions.specs.Served.{PrintsByRanks}

-- The text was written, with this status; there was no memory; or the text needs more room.
pub data Outcome : Type 0 where
  served : Status → Outcome
  no_memory no_room : Outcome

-- the number that the call gives
abbrev pub outcome_number : Outcome → ℕ
outcome_number (served is_answered) = 0
outcome_number (served is_refused) = 1
outcome_number (served is_unreadable) = 2
outcome_number (served is_stopped) = 3
outcome_number no_memory = 4
outcome_number no_room = 5

-- What a call for these bytes leaves of the room, and what it says is needed. The text stands at the room's beginning, and what lies
-- behind it is as it was. Where there is no room for it, its length is told.
abbrev pub Leaves : List ℕ → Outcome → List ℕ → List ℕ → ℕ → Type 0
Leaves bytes (served s) old new n = (n ≤ length new) × PrintsByRanks bytes s (take n new) × (drop n new ≡ drop n old)
Leaves bytes no_memory old new n = (n ≡ 0) × (new ≡ old)
Leaves bytes no_room old new n = (s : Status) × (text : Text) × PrintsByRanks bytes s text × (length text ≡ n) × (length old < n) × (new ≡ old)
