use Rattle.std.proofs.Common.{string_bytes}
use Rattle.cedarcheck.proofs.Lines.{refusal_added}
use Rattle.cedarcheck.proofs.findings.push_finding.Goals as goal

pub returns : goal.returns
returns c = refusal_added c.push_refusal.result c.args.finding.now.number c.as_str.result.now _ _ c.push_refusal.ensures
