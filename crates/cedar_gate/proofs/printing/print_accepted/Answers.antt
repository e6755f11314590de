use Rattle.std.proofs.Common.{map, ap, ◌∙◌}
use Rattle.cedar_store_parts.specs.Parts.{id_text}
use Rattle.cedar_gate.proofs.PrintedRuns.{accepted_prints}
use Rattle.cedar_gate_runs.specs.Statuses.{status_of}
use Rattle.cedar_gate.proofs.printing.print_accepted.Goals as goal

pub returns-clause-prints : goal.returns-clause-prints
returns-clause-prints g c = λ d s. accepted_prints d (status_of c.in_ok-status.status) _ _ _ (map id_text c.warnings.result.now) c.new-text.ensures.bytes c.in_ok-push_warnings.ensures (ap (map id_text) c.warnings.ensures ∙ s.warned) (c.in_ok-status.ensures.prints d s)
