use Rattle.std.proofs.Common.{refl, ap}
use Rattle.cedar_gate.proofs.Bundled.{handed_in}
use Rattle.cedar_gate_bundles.specs.Bundles.{submission_of}
use Rattle.cedar_gate_fragments.specs.Written.{declared_by}
use Rattle.cedarcheck.proofs.Explained.{accepted_explains, refusal_explains}
use Rattle.cedarcheck.proofs.report.report_judged.Goals as goal

pub returns-in-Ok : goal.returns-in-Ok
returns-in-Ok g c =
    let t = c.args.table.now in
    let s = c.args.submission in
    accepted_explains t c.report_accepted.result s
    (λ x a. c.in-Ok.ensures.accepted (submission_of x s) (handed_in x s t _ a (ap declared_by c.as_slice-fragments.ensures.value)) refl)
    c.report_accepted.ensures.status c.report_accepted.ensures.found

pub returns : goal.returns
returns g c =
    let t = c.args.table.now in
    let s = c.args.submission in
    refusal_explains t c.report_refusal.result s c.in-Err.fault
    (λ x a. c.in-Err.ensures.refused (submission_of x s) (handed_in x s t _ a (ap declared_by c.as_slice-fragments.ensures.value)) refl)
    c.report_refusal.ensures
