-- What runs of the code come to.
-- Rule: runs; statuses and refusal numbers (docs/RULES.md).
use Rattle.std.specs.Prelude.{◌≡◌, List, Some, option_map, Result, Ok, Err}
use Rattle.cedar_store_model.specs.Answer.{Answer}
use Rattle.cedar_evaluator_model.specs.Laws.{as_concrete}
use Rattle.cedar_evaluator_requests.specs.Views.{answer_of}
use Rattle.cedar_gate_model.specs.Runs.{answered, opening_refused, supply_refused, binding_refused, answer_refused}
use Rattle.cedar_gate_model.specs.RunsAnswer.{Course, session_of, IsRun}
use Rattle.cedar_gate_model.specs.Session.{at_start, OpenRefusal, open_number, SupplyRefusal, supply_number, BindRefusal, bind_number, AnswerRefusal, answer_number}
use Rattle.cedar_gate_model.specs.Transcript.{Entry}
use Rattle.cedar_gate_runs.specs.Stopping.{WasDone, HasStopped}
use Rattle.cedar_gate_runs.specs.Transcripts.{entries_of}
use Rattle.cedar_gate_runs.specs.declared.stops_with.Stop.{Stop}
use Rattle.cedar_gate_runs.specs.declared.transcript.Transcript.{Transcript}
use Rattle.cedar_gate_runs.specs.declared.stops.RunFault.{RunFault}
use Rattle.cedar_gate_runs.specs.declared.stops.RunFault.TheVariants.{Memory, Host, Opening, Supplying, Binding, Answering}

-- The entries and the answer are those of a run of the course.
abbrev pub IsAnswered : Course → Transcript → Type 0
IsAnswered c t = (a : Answer) × (option_map answer_of t.answer ≡ Some (as_concrete a)) × IsRun c (entries_of t.entries.items) (answered a)

-- The entries are those of a run of the course that ends with the refusal of this number. Out of memory and after a fault of the
-- host they are what was done by then.
abbrev pub IsStopped : Course → RunFault → Type 0
IsStopped c (Memory t) = WasDone (session_of c) c.submission.policies at_start c.steps (entries_of t.entries.items)
IsStopped c (Host t) = WasDone (session_of c) c.submission.policies at_start c.steps (entries_of t.entries.items)
IsStopped c (Opening n t) = (f : OpenRefusal) × (n ≡ open_number f) × IsRun c (entries_of t.entries.items) (opening_refused f)
IsStopped c (Supplying n t) = (f : SupplyRefusal) × (n ≡ supply_number f) × IsRun c (entries_of t.entries.items) (supply_refused f)
IsStopped c (Binding n t) = (f : BindRefusal) × (n ≡ bind_number f) × IsRun c (entries_of t.entries.items) (binding_refused f)
IsStopped c (Answering n t) = (f : AnswerRefusal) × (n ≡ answer_number f) × IsRun c (entries_of t.entries.items) (answer_refused f)

-- What a run hands out is that of a run of the course.
abbrev pub IsRunOf : Course → Result Transcript RunFault → Type 0
IsRunOf c (Ok t) = IsAnswered c t
IsRunOf c (Err f) = IsStopped c f

-- a run of the steps of the course stopped with these entries
abbrev pub HasStoppedBy : Course → List Entry → Stop → Type 0
HasStoppedBy c es stop = HasStopped (session_of c) c.submission.policies at_start c.steps es stop
