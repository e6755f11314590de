-- What the laws of runs and of lines say.
-- Rule: runs; legal transcript; the lines (docs/RULES.md).
use Rattle.std.specs.Prelude.{◌≡◌, ◌↔◌, List, [], ◌∷◌, Option, Some, None}
use Rattle.cedar_expr_model.specs.Name.{Text}
use Rattle.cedar_expr_model.specs.Made.{Made}
use Rattle.cedar_store_model.specs.World.{World}
use Rattle.cedar_store_model.specs.Policy.{Policy}
use Rattle.cedar_store_model.specs.Answer.{Answer}
use Rattle.cedar_schema_model.specs.BagLaws.{HasTwice}
use Rattle.cedar_evaluator_model.specs.Scope.{Context, closed, residual_fields, unknown_context}
use Rattle.cedar_gate_model.specs.Acceptance.{IsAccepted}
use Rattle.cedar_evaluator_model.specs.Functions.{Functions}
use Rattle.cedar_gate_model.specs.Bundle.{Bundle}
use Rattle.cedar_gate_model.specs.Moment.{at_first}
use Rattle.cedar_gate_model.specs.GateLaws.{asked_in, AsksTheSlice}
use Rattle.cedar_gate_model.specs.Transcript.{Step, load, bind_name, decide, Entry, round, bound, decided, Case, AreLegal}
use Rattle.cedar_gate_model.specs.Session.{Setup, State, at_start, CompletesNow}
use Rattle.cedar_gate_model.specs.Runs.{End, answered, opening_refused, supply_refused, binding_refused, answer_refused, with_asked, MayDecide, Runs}
use Rattle.cedar_gate_model.specs.Lines.{Status, is_answered, is_refused, run_lines, is_unreadable, unreadable_line, Prints}

-- no uid is asked for twice in a legal transcript, in two rounds or in one
abbrev pub NothingTwice : Type 0
NothingTwice = (c : Case) (w : World) (es : List Entry) → AreLegal c w at_first es → HasTwice (asked_in es) → ⊥

-- Two transcripts have the same rounds and bindings, and decisions in the same places.
abbrev pub EntriesAlike : List Entry → List Entry → Type 0
EntriesAlike [] [] = Unit {0}
EntriesAlike (round us ∷ es) (round vs ∷ fs) = (us ≡ vs) × EntriesAlike es fs
EntriesAlike (bound m ∷ es) (bound n ∷ fs) = (m ≡ n) × EntriesAlike es fs
EntriesAlike (decided d ∷ es) (decided e ∷ fs) = EntriesAlike es fs
EntriesAlike es fs = ⊥

-- Two ends give the same answer, or refuse the same call.
abbrev pub EndsAlike : End → End → Type 0
EndsAlike (answered a) (answered b) = a ≡ b
EndsAlike (opening_refused f) (opening_refused g) = Unit {0}
EndsAlike (supply_refused f) (supply_refused g) = Unit {0}
EndsAlike (binding_refused f) (binding_refused g) = Unit {0}
EndsAlike (answer_refused f) (answer_refused g) = Unit {0}
EndsAlike e f = ⊥

-- Two runs of the same steps differ at most in what decisions are given, and in which of several refusals is named.
abbrev pub RunsAreAlike : Type 0
RunsAreAlike = (x : Setup) (ps : List Policy) (steps : List Step) (es fs : List Entry) (end other : End)
    → Runs (MayDecide x ps) x ps steps es end → Runs (MayDecide x ps) x ps steps fs other → EntriesAlike es fs × EndsAlike end other

-- the status of an input is one alone
abbrev pub OneStatus : Type 0
OneStatus = (f : Functions) (input : Option Bundle) (a b : Status) (s t : Text) → Prints f input a s → Prints f input b t → a ≡ b

-- two outputs of a bundle that is answered have one answer, the same rounds, and decisions in the same places
abbrev pub OneAnswer : Type 0
OneAnswer = (f : Functions) (b : Bundle) (s t : Text) → Prints f (Some b) is_answered s → Prints f (Some b) is_answered t
    → (a : Answer) × (es : List Entry) × (fs : List Entry) × (s ≡ run_lines b es (answered a)) × (t ≡ run_lines b fs (answered a)) × EntriesAlike es fs

-- an input that doesn't read prints `unreadable` alone, and no other does
abbrev pub UnreadableAlone : Type 0
UnreadableAlone = (f : Functions) (a : Status) (s : Text) → Prints f None a s ↔ ((a ≡ is_unreadable) × (s ≡ unreadable_line))

abbrev pub OnlyUnreadable : Type 0
OnlyUnreadable = (f : Functions) (input : Option Bundle) (s : Text) → Prints f input is_unreadable s → input ≡ None

-- a refusal may be printed exactly where a submission isn't accepted
abbrev pub RefusalsAreFaults : Type 0
RefusalsAreFaults = (f : Functions) (b : Bundle) → ((text : Text) × Prints f (Some b) is_refused text) ↔ (IsAccepted b.submission → ⊥)

-- the context has no field with an unknown in it: it is known, or wholly unknown
abbrev pub HasNoResidual : Context → Type 0
HasNoResidual (closed fs) = Unit {0}
HasNoResidual (residual_fields fs) = ⊥
HasNoResidual unknown_context = Unit {0}

-- the names that steps bind, with their values
abbrev pub bindings_in : List Step → List (Text × Made)
bindings_in [] = []
bindings_in (load ∷ steps) = bindings_in steps
bindings_in (bind_name n m ∷ steps) = (n, m) ∷ bindings_in steps
bindings_in (decide ∷ steps) = bindings_in steps

-- the state after entries, whose bindings have these values in their order
abbrev pub last_state : State → List (Text × Made) → List Entry → State
last_state s bs [] = s
last_state s bs (round uids ∷ es) = last_state (with_asked s uids) bs es
last_state s [] (bound n ∷ es) = last_state s [] es
last_state s (b ∷ bs) (bound n ∷ es) = last_state (record s { bound = b ∷ s.bound }) bs es
last_state s bs (decided d ∷ es) = last_state s bs es

abbrev pub case_of : Setup → List Policy → Case
case_of x ps = record { schema = x.schema; level = x.level; policies = ps; start = x.start }

-- What a run did, a refused one too, is legal against each world that completes its last state.
abbrev pub RunsAreLegal : Type 0
RunsAreLegal = (x : Setup) (ps : List Policy) (steps : List Step) (es : List Entry) (end : End) → HasNoResidual x.start.context → Runs (MayDecide x ps) x ps steps es end
    → (w : World) → CompletesNow x (last_state at_start (bindings_in steps) es) w → AreLegal (case_of x ps) w at_first es

-- a run that answered asked for the slice, in few rounds after its last binding
abbrev pub AnsweredRunsAskTheSlice : Type 0
AnsweredRunsAskTheSlice = (x : Setup) (ps : List Policy) (steps : List Step) (es : List Entry) (a : Answer) → HasNoResidual x.start.context → Runs (MayDecide x ps) x ps steps es (answered a)
    → (w : World) → CompletesNow x (last_state at_start (bindings_in steps) es) w → AsksTheSlice (case_of x ps) w es
