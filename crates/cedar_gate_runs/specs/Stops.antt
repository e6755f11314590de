-- Why runs stop, and the last line of it.
-- Rule: statuses and refusal numbers; the lines (docs/RULES.md).
use Rattle.std.specs.Prelude.{◌++◌, ℕ, Option, option_map, Some, None, codes}
use Rattle.cedar_expr_model.specs.Name.{Text}
use Rattle.cedar_gate_model.specs.Lines.{entry_lines, numbered}
use Rattle.cedar_gate_runs.specs.Transcripts.{entries_of}
use Rattle.cedar_gate_runs.specs.declared.transcript.Transcript.{Transcript}
use Rattle.cedar_gate_runs.specs.declared.stops.RunFault.{RunFault}
use Rattle.cedar_gate_runs.specs.declared.stops.RunFault.TheVariants.{Memory, Host, Opening, Supplying, Binding, Answering}

abbrev pub run_fault_number : RunFault → ℕ
run_fault_number (Memory t) = 0
run_fault_number (Host t) = 1
run_fault_number (Opening n t) = 2
run_fault_number (Supplying n t) = 3
run_fault_number (Binding n t) = 4
run_fault_number (Answering n t) = 5

abbrev pub run_fault_transcript : RunFault → Transcript
run_fault_transcript (Memory t) = t
run_fault_transcript (Host t) = t
run_fault_transcript (Opening n t) = t
run_fault_transcript (Supplying n t) = t
run_fault_transcript (Binding n t) = t
run_fault_transcript (Answering n t) = t

-- the last line of a run that was refused
abbrev pub refusal_line : RunFault → Option Text
refusal_line (Memory t) = None
refusal_line (Host t) = None
refusal_line (Opening n t) = Some (numbered (codes "open") n)
refusal_line (Supplying n t) = Some (numbered (codes "supply") n)
refusal_line (Binding n t) = Some (numbered (codes "bind") n)
refusal_line (Answering n t) = Some (numbered (codes "answer") n)

-- a text and the lines of a run that was refused
abbrev pub text_refused : Text → RunFault → Option Text
text_refused before f = option_map (λ end. before ++ (entry_lines 1 (entries_of (run_fault_transcript f).entries.items) ++ end)) (refusal_line f)
