use Rattle.cedarcheck.proofs.findings.with_numbers.Goals as goal

pub loop-finding-preserved : goal.loop-finding-preserved
loop-finding-preserved c = λ s h. c.in_ok-keep.ensures s h (c.loop-finding.invariant s h)
