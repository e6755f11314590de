-- Which lists of uids a run asks its host for: those of its rounds, and one more where what was answered to it was refused.
-- Rule: runs (docs/RULES.md).
use Rattle.std.specs.Prelude.{◌≡◌, ◌≤◌, ◌++◌, ◌∷◌, [], List, length, Result, Ok, Err}
use Rattle.cedar_expr_model.specs.Uid.{Uid}
use Rattle.cedar_gate_model.specs.Transcript.{Entry, round, bound, decided}
use Rattle.cedar_gate_runs.specs.declared.stops_with.Stop.{Stop}
use Rattle.cedar_gate_runs.specs.declared.stops_with.Stop.TheVariants as stop
use Rattle.cedar_gate_runs.specs.Transcripts.{entries_of}
use Rattle.cedar_gate_runs.specs.declared.stops.RunFault.{RunFault}
use Rattle.cedar_gate_runs.specs.declared.stops.RunFault.TheVariants.{Memory, Host, Opening, Supplying, Binding, Answering}
use Rattle.cedar_gate_runs.specs.declared.transcript.Transcript.{Transcript}

-- the lists of the rounds among these entries, in their order
abbrev pub rounds_of : List Entry → List (List Uid)
rounds_of [] = []
rounds_of (round uids ∷ es) = uids ∷ rounds_of es
rounds_of (bound n ∷ es) = rounds_of es
rounds_of (decided d ∷ es) = rounds_of es

-- After what was asked at first, the host was asked for the rounds among these entries, and for no more.
abbrev pub AskedRounds : List (List Uid) → List (List Uid) → List Entry → Type 0
AskedRounds first asked es = asked ≡ first ++ rounds_of es

-- What a stop leaves asked for beyond the rounds: one list where what was answered to it is refused, and at most one where it stopped out of memory.
abbrev pub IsBeyond : Stop → List (List Uid) → Type 0
IsBeyond stop.Memory more = length more ≤ 1
IsBeyond stop.Host more = more ≡ []
IsBeyond (stop.Supplying n) more = length more ≡ 1
IsBeyond (stop.Binding n) more = more ≡ []
IsBeyond (stop.Answering n) more = more ≡ []

-- The host was asked for this, and for what the stop leaves asked for beyond it.
abbrev pub AskedBeyond : List (List Uid) → List (List Uid) → Stop → Type 0
AskedBeyond told asked s = (more : List (List Uid)) × IsBeyond s more × (asked ≡ told ++ more)

-- the entries of a run that stopped
abbrev pub entries_done : RunFault → List Entry
entries_done (Memory t) = entries_of t.entries.items
entries_done (Host t) = entries_of t.entries.items
entries_done (Opening n t) = entries_of t.entries.items
entries_done (Supplying n t) = entries_of t.entries.items
entries_done (Binding n t) = entries_of t.entries.items
entries_done (Answering n t) = entries_of t.entries.items

-- what a run that stopped leaves asked for beyond its rounds
abbrev pub IsLost : RunFault → List (List Uid) → Type 0
IsLost (Memory t) more = length more ≤ 1
IsLost (Host t) more = more ≡ []
IsLost (Opening n t) more = more ≡ []
IsLost (Supplying n t) more = length more ≡ 1
IsLost (Binding n t) more = more ≡ []
IsLost (Answering n t) more = more ≡ []

-- A run that stopped asked the host for its rounds, and beyond them for a list whose answer was refused, if for any.
abbrev pub AskedBy : List (List Uid) → List (List Uid) → RunFault → Type 0
AskedBy first asked f = (more : List (List Uid)) × IsLost f more × (asked ≡ (first ++ rounds_of (entries_done f)) ++ more)

-- A run that was answered asked the host for its rounds; one that stopped perhaps for one list more.
abbrev pub AskedIn : List (List Uid) → List (List Uid) → Result Transcript RunFault → Type 0
AskedIn first asked (Ok t) = AskedRounds first asked (entries_of t.entries.items)
AskedIn first asked (Err f) = AskedBy first asked f

-- what a run leaves asked for by this stop with these entries
abbrev pub StopsAsked : List Entry → Stop → RunFault → Type 0
StopsAsked es s f = (first asked : List (List Uid)) → AskedBeyond (first ++ rounds_of es) asked s → AskedBy first asked f
