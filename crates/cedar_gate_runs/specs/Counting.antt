-- What a run leaves of its host: how many failures of its own it has had, and what it was asked for.
-- Rule: runs (docs/RULES.md).
use Rattle.std.specs.Prelude.{◌≡◌, ◌+◌, ℕ, List, Result, Ok, Err}
use Rattle.cedar_expr_model.specs.Uid.{Uid}
use Rattle.cedar_gate_runs.specs.Asking.{AskedIn}
use Rattle.cedar_gate_runs.specs.declared.stops_with.Stop.{Stop}
use Rattle.cedar_gate_runs.specs.declared.stops_with.Stop.TheVariants as stop
use Rattle.cedar_gate_runs.specs.declared.stops.RunFault.{RunFault}
use Rattle.cedar_gate_runs.specs.declared.stops.RunFault.TheVariants.{Memory, Host, Opening, Supplying, Binding, Answering}
use Rattle.cedar_gate_runs.specs.declared.transcript.Transcript.{Transcript}

-- one more after a fault of the host, and as many as before after any other stop
abbrev pub count_after : Stop → ℕ → ℕ
count_after stop.Memory n = n
count_after stop.Host n = n + 1
count_after (stop.Supplying k) n = n
count_after (stop.Binding k) n = n
count_after (stop.Answering k) n = n

-- the stop is no fault of the host
abbrev pub KeepsCount : Stop → Type 0
KeepsCount s = (n : ℕ) → count_after s n ≡ n

-- so is it after a run that stopped
abbrev pub run_count : RunFault → ℕ → ℕ
run_count (Memory t) n = n
run_count (Host t) n = n + 1
run_count (Opening k t) n = n
run_count (Supplying k t) n = n
run_count (Binding k t) n = n
run_count (Answering k t) n = n

-- and after any run
abbrev pub count_in : Result Transcript RunFault → ℕ → ℕ
count_in (Ok t) n = n
count_in (Err f) n = run_count f n

-- The host was asked for the rounds, by a run that stopped for one list more at most; and its count of failures rose by one exactly where a
-- fault of the host is answered.
pub record HostSaw (first asked : List (List Uid)) (before after : ℕ) (r : Result Transcript RunFault) : Type 0 where
  pub lists : AskedIn first asked r
  pub counted : after ≡ count_in r before
