use Rattle.std.proofs.Common.{◌∷◌, [], sym, ap, ◌∙◌}
use Rattle.cedarcheck.proofs.Explained.{one_refusal}
use Rattle.cedarcheck.proofs.report.report_refusal.Goals as goal

pub returns : goal.returns
returns c =
    one_refusal c.args.fault.now c.in_ok-found.found c.report_refused.result (sym c.is_memory.ensures ∙ c.if-is_memory.false) (c.in_ok-found.ensures ∙ ap (λ n. n ∷ []) c.number.ensures)
    c.report_refused.ensures.status c.report_refused.ensures.found c.report_refused.ensures.lines
