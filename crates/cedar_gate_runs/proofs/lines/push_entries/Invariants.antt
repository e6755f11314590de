-- The lines so far and those of the entries that are left are all lines; there are at most as many rounds as entries.
use Rattle.std.proofs.Common.{◌≡◌, ◌≤◌, ◌+◌, ◌++◌, drop, string_bytes}
use Rattle.cedar_gate_model.specs.Lines.{entry_lines}
use Rattle.cedar_gate_runs.specs.Transcripts.{entries_of}
use Rattle.cedar_gate_runs.proofs.lines.push_entries.Given as goal

abbrev pub invariant-loop-entry : goal.invariant-loop-entry
invariant-loop-entry l = record {
  counted : l.rounds ≤ l.entry-index;
  written : string_bytes l.out ++ entry_lines (l.rounds + 1) (entries_of (drop l.entry-index l.entries))
      ≡ string_bytes l.initial.out ++ entry_lines 1 (entries_of l.entries);
}
