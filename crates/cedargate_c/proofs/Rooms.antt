-- A text at the beginning of a room, and the numbers of statuses.
use Rattle.std.proofs.Common.{◌≡◌, ◌∙◌, ◌++◌, ℕ, List, length, refl, sym, subst, arith}
use Rattle.std.specs.Prelude.{drop}
use Rattle.std.proofs.lemmas.List.{length-append, take_at, drop_at}
use Rattle.cedar_gate_model.specs.Lines as lines
use Rattle.cedar_gate_runs.specs.Statuses.{status_number, status_of}
use Rattle.cedar_gate_runs.specs.declared.status.Status.{Status}
use Rattle.cedar_gate_runs.specs.declared.status.Status.TheVariants.{Answered, Refused, Unreadable, Stopped}
use Rattle.cedargate_functions.specs.Served.{PrintsByRanks}
use Rattle.cedargate_c.specs.Calls.{served, outcome_number, Leaves}

-- what is left where a text was written
pub text_is_left : (bytes : List ℕ) (s : lines.Status) (room text : List ℕ) (n : ℕ) → length text ≡ n → PrintsByRanks bytes s text → Leaves bytes (served s) room (text ++ drop n room) n
text_is_left bytes s room text n e p = (
  omega (arith, length-append text (drop n room), e),
  subst (PrintsByRanks bytes s) (sym (take_at text (drop n room) n e)) p,
  drop_at text (drop n room) n e,
)

-- the number of a status
pub number_is : (s : Status) → status_number s ≡ outcome_number (served (status_of s))
number_is Answered = refl
number_is Refused = refl
number_is Unreadable = refl
number_is Stopped = refl
