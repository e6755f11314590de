use Rattle.std.proofs.Common.{take, string_bytes}
use Rattle.cedarcheck.specs.Faults.{numbers_in}
use Rattle.cedarcheck.specs.Lines.{AreRefusals}
use Rattle.cedarcheck.proofs.findings.lines_of.Given as goal

abbrev pub invariant-loop-one : goal.invariant-loop-one
invariant-loop-one l = AreRefusals (numbers_in (take l.one-index l.found)) (string_bytes l.text)
