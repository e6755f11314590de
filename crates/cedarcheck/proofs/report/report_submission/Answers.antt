use Rattle.std.proofs.Common.{sym, ◌∙◌}
use Rattle.cedarcheck.proofs.Explained.{found_explains, some_number}
use Rattle.cedarcheck.proofs.report.report_submission.Goals as goal

pub returns-else-is_empty : goal.returns-else-is_empty
returns-else-is_empty g c =
    let fs = c.in_ok-found.found in
    found_explains c.args.table.now c.report_refused.result c.args.submission fs c.in_ok-found.ensures (some_number fs (sym c.is_empty.ensures ∙ c.if-is_empty.false)) c.report_refused.ensures.status c.report_refused.ensures.found c.report_refused.ensures.lines
