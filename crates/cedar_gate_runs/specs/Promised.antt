-- What runs of the code promise, by the headline.
-- Rule: runs; the slice; the answer (docs/RULES.md).
use Rattle.std.specs.Prelude.{◌≡◌, Some, None, option_map, Result, Ok, Err}
use Rattle.cedar_store_model.specs.Answer.{Answer}
use Rattle.cedar_evaluator_model.specs.Laws.{as_concrete}
use Rattle.cedar_evaluator_requests.specs.Views.{answer_of}
use Rattle.cedar_gate_model.specs.Headline.{KeepsPromises}
use Rattle.cedar_gate_model.specs.RunsAnswer.{Course}
use Rattle.cedar_gate_runs.specs.Asking.{entries_done}
use Rattle.cedar_gate_runs.specs.Transcripts.{entries_of}
use Rattle.cedar_gate_runs.specs.declared.transcript.Transcript.{Transcript}
use Rattle.cedar_gate_runs.specs.declared.stops.RunFault.{RunFault}

-- What a run hands out keeps the promises: its entries with the answer, or what was done until it stopped.
abbrev pub KeepsRun : Course → Result Transcript RunFault → Type 0
KeepsRun c (Ok t) = (a : Answer) × (option_map answer_of t.answer ≡ Some (as_concrete a)) × KeepsPromises c (entries_of t.entries.items) (Some a)
KeepsRun c (Err f) = KeepsPromises c (entries_done f) None
