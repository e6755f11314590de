use Rattle.cedar_gate_model.specs.Acceptance.{Submission}
use Rattle.cedarcheck.specs.Faults.{HasNumbers, numbers_in}
use Rattle.cedarcheck.proofs.findings.with_numbers.Given as goal

abbrev pub invariant-loop-finding : goal.invariant-loop-finding
invariant-loop-finding l = (s : Submission) → HasNumbers s l.numbers → HasNumbers s (numbers_in l.kept.items)
