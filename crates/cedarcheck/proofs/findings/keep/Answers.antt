use Rattle.std.proofs.Common.{List, sym, ◌∙◌, subst}
use Rattle.cedarcheck.specs.Faults.{HasNumbers, numbers_in}
use Rattle.cedarcheck.specs.declared.findings.Finding.{Finding}
use Rattle.cedarcheck.proofs.Numbers.{with_finding, among}
use Rattle.cedarcheck.proofs.findings.keep.Goals as goal

pub returns : goal.returns
returns c = λ s h k. subst (λ (fs : List Finding). HasNumbers s (numbers_in fs)) (sym c.in_ok-push.ensures.items) (with_finding s c.args.kept.now.items c.args.finding k (among s c.args.numbers.now c.args.finding.number h (sym c.is_among.ensures ∙ c.if-not-is_among.false)))
