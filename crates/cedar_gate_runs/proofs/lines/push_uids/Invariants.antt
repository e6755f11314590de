-- The uids so far are appended.
use Rattle.std.proofs.Common.{◌≡◌, ◌++◌, map, take, string_bytes}
use Rattle.cedar_expr_names.specs.Views.{uid_of}
use Rattle.cedar_gate_runs.specs.Printing.{uids_text}
use Rattle.cedar_gate_runs.proofs.lines.push_uids.Given as goal

abbrev pub invariant-loop-uid : goal.invariant-loop-uid
invariant-loop-uid l = string_bytes l.out ≡ string_bytes l.initial.out ++ uids_text (map uid_of (take l.uid-index l.uids))
