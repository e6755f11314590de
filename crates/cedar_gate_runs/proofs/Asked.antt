-- What the host was asked for, an entry more.
use Rattle.std.proofs.Common.{◌≡◌, List, [], ◌∷◌, ◌++◌, refl, sym, ap, ◌∙◌, append_assoc, arith}
use Rattle.std.proofs.lemmas.List.{append-nil}
use Rattle.std.specs.Prelude.{Ok}
use Rattle.cedar_expr_model.specs.Uid.{Uid}
use Rattle.cedar_gate_runs.specs.declared.host.HostFault.{HostFault}
use Rattle.cedar_gate_runs.specs.declared.host.HostFault.TheVariants as host
use Rattle.cedar_gate_model.specs.Headline.{Headline}
use Rattle.cedar_gate_model.specs.RunsAnswer.{Course, IsProper, MakeFairly}
use Rattle.cedar_gate_model.specs.Runs.{answered}
use Rattle.cedar_gate_model.specs.Transcript.{Entry, round, bound, decided}
use Rattle.cedar_gate_runs.specs.Asking.{rounds_of, AskedRounds, IsBeyond, AskedBeyond}
use Rattle.cedar_gate_runs.specs.Ends.{IsAnswered}
use Rattle.cedar_gate_runs.specs.Promised.{KeepsRun}
use Rattle.cedar_gate_runs.specs.Transcripts.{entries_of}
use Rattle.cedar_gate_runs.specs.StopsWith.{host_stop, supply_stop, bind_stop, answer_stop}
use Rattle.cedar_gate_runs.specs.declared.sessions.Refusal.{Refusal}
use Rattle.cedar_gate_runs.specs.declared.sessions.Refusal.TheVariants.{OutOfMemory, Numbered}
use Rattle.cedar_gate_runs.specs.declared.stops_with.Stop.{Stop}
use Rattle.cedar_gate_runs.specs.declared.stops_with.Stop.TheVariants as stop
use Rattle.cedar_gate_runs.specs.declared.transcript.Transcript.{Transcript}

-- the rounds of entries and of those after them
pub rounds_append : (es fs : List Entry) → rounds_of (es ++ fs) ≡ rounds_of es ++ rounds_of fs
rounds_append [] fs = refl
rounds_append (round us ∷ es) fs = ap (λ z. us ∷ z) (rounds_append es fs)
rounds_append (bound n ∷ es) fs = rounds_append es fs
rounds_append (decided d ∷ es) fs = rounds_append es fs

-- one more list, and its round
pub one_more : (first asked : List (List Uid)) (es fs : List Entry) (us : List Uid) → fs ≡ es ++ round us ∷ [] → asked ≡ first ++ rounds_of es → asked ++ us ∷ [] ≡ first ++ rounds_of fs
one_more first asked es fs us grown h = ap (λ z. z ++ us ∷ []) h ∙ append_assoc first (rounds_of es) (us ∷ []) ∙ ap (λ z. first ++ z) (sym (rounds_append es (round us ∷ [])) ∙ ap rounds_of (sym grown))

-- a binding, or a decision, and no list
pub no_more : (es fs : List Entry) (e : Entry) → rounds_of (e ∷ []) ≡ [] → fs ≡ es ++ e ∷ [] → rounds_of fs ≡ rounds_of es
no_more es fs e none grown = ap rounds_of grown ∙ rounds_append es (e ∷ []) ∙ ap (λ z. rounds_of es ++ z) none ∙ append-nil (rounds_of es)

-- the host refuses
pub host_beyond : (f : HostFault) → IsBeyond (host_stop f) []
host_beyond host.Memory = omega arith
host_beyond host.Device = refl

-- the session refuses what was answered
pub supply_beyond : (r : Refusal) (us : List Uid) → IsBeyond (supply_stop r) (us ∷ [])
supply_beyond OutOfMemory us = omega arith
supply_beyond (Numbered n) us = refl

-- it refuses a binding, or the answer
pub bind_beyond : (r : Refusal) → IsBeyond (bind_stop r) []
bind_beyond OutOfMemory = omega arith
bind_beyond (Numbered n) = refl

pub answer_beyond : (r : Refusal) → IsBeyond (answer_stop r) []
answer_beyond OutOfMemory = omega arith
answer_beyond (Numbered n) = refl

pub memory_beyond : IsBeyond stop.Memory []
memory_beyond = omega arith

pub memory_beyond_one : (us : List Uid) → IsBeyond stop.Memory (us ∷ [])
memory_beyond_one us = omega arith

-- nothing is asked beyond what was asked before
pub alone_beyond : (asked : List (List Uid)) (s : Stop) → IsBeyond s [] → AskedBeyond asked asked s
alone_beyond asked s h = ([], h, sym (append-nil asked))

-- What is beyond what was asked is beyond the rounds that were asked.
pub beyond_on : (first told asked : List (List Uid)) (es fs : List Entry) (s : Stop) → AskedRounds first told es → fs ≡ es → AskedBeyond told asked s → AskedBeyond (first ++ rounds_of fs) asked s
beyond_on first told asked es fs s h same b = (b.0, b.1, b.2 ∙ ap (λ z. z ++ b.0) (h ∙ ap (λ z. first ++ rounds_of z) (sym same)))

-- the rounds are as before, and so is what was asked
pub asked_alone : (first asked : List (List Uid)) (es fs : List Entry) → rounds_of fs ≡ rounds_of es → AskedRounds first asked es → AskedRounds first asked fs
asked_alone first asked es fs same h = h ∙ ap (λ z. first ++ z) (sym same)

-- a run begins with no rounds
pub asked_first : (first : List (List Uid)) (es : List Entry) → es ≡ [] → AskedRounds first first es
asked_first first es none = sym (append-nil first) ∙ ap (λ z. first ++ rounds_of z) (sym none)

-- what a run that was answered promises
pub keeps_answered : Headline → (c : Course) → IsProper c → MakeFairly c.functions → (t : Transcript) → IsAnswered c t → KeepsRun c (Ok t)
keeps_answered h c proper fair t a = (a.0, a.1, h c (entries_of t.entries.items) (answered a.0) proper fair a.2)
