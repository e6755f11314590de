-- The lines of the ids so far are appended.
use Rattle.std.proofs.Common.{◌≡◌, ◌++◌, map, take, string_bytes}
use Rattle.std.specs.List.{flat_map}
use Rattle.std.specs.Prelude.{codes}
use Rattle.cedar_store_parts.specs.Parts.{id_text}
use Rattle.cedar_gate_runs.specs.Printing.{named_line}
use Rattle.cedar_gate_runs.proofs.lines.push_reasons.Given as goal

abbrev pub invariant-loop-id : goal.invariant-loop-id
invariant-loop-id l = string_bytes l.out ≡ string_bytes l.initial.out ++ flat_map (λ id. named_line (codes "reason") id) (map id_text (take l.id-index l.id-items))
