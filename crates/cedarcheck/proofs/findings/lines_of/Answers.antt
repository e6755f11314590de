use Rattle.std.proofs.Common.{arith, string_bytes}
use Rattle.cedarcheck.proofs.Lines.{next_line, all_lines}
use Rattle.cedarcheck.proofs.findings.lines_of.Goals as goal

pub loop-one-preserved : goal.loop-one-preserved
loop-one-preserved c =
    next_line c.args.found.now c.loop-one.one-index (string_bytes c.loop-one.text) c.loop-one.invariant c.one-item.result _ c.loop-one-test.true c.one-item.is _ c.in_ok-push_finding.ensures

pub returns : goal.returns
returns c = all_lines c.args.found.now c.loop-one.one-index (string_bytes c.loop-one.text) c.loop-one.invariant (omega (arith, c.loop-one-test.false))
