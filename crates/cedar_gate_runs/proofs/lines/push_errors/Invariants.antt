-- The lines of the errors so far are appended.
use Rattle.std.proofs.Common.{◌≡◌, ◌++◌, map, take, string_bytes}
use Rattle.std.specs.List.{flat_map}
use Rattle.cedar_evaluator_requests.specs.Views.{error_of}
use Rattle.cedar_gate_runs.specs.Printing.{error_line}
use Rattle.cedar_gate_runs.proofs.lines.push_errors.Given as goal

abbrev pub invariant-loop-error : goal.invariant-loop-error
invariant-loop-error l = string_bytes l.out ≡ string_bytes l.initial.out ++ flat_map error_line (map error_of (take l.error-index l.errors))
