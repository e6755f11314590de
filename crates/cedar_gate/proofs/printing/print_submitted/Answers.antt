use Rattle.std.proofs.Common.{ap, refl}
use Rattle.cedar_gate_bundles.specs.Bundles.{submission_of}
use Rattle.cedar_gate_fragments.specs.Written.{declared_by}
use Rattle.cedar_gate.proofs.Bundled.{handed_in, held_of, accepted_prints}
use Rattle.cedar_gate.proofs.Printed.{fault_prints, fault_judged, run_judged}
use Rattle.cedar_gate.proofs.printing.print_submitted.Goals as goal

pub returns-in-Ok-clause-prints : goal.returns-in-Ok-clause-prints
returns-in-Ok-clause-prints g c =
    let t = c.args.table.now in
    let s = c.args.bundle.submission in
    let made = c.in-Ok.ensures in
    accepted_prints c.args.bundle c.in-Ok.gate t _ (λ x a. made.accepted (submission_of x s) (handed_in x s t _ a (ap declared_by c.as_slice-fragments.ensures.value)) refl)
    (λ x a. held_of c.in-Ok.gate (submission_of x s) _ _ _ _ _ made.declarations made.policies made.table made.limit made.level (handed_in x s t _ a (ap declared_by c.as_slice-fragments.ensures.value)) refl)
    made.table (λ x a. made.warnings (submission_of x s) (handed_in x s t _ a (ap declared_by c.as_slice-fragments.ensures.value)) refl) c.print_accepted.ensures.prints

pub returns-in-Err-clause-prints : goal.returns-in-Err-clause-prints
returns-in-Err-clause-prints g c =
    let t = c.args.table.now in
    let s = c.args.bundle.submission in
    fault_prints t c.args.bundle c.in-Err.fault _
    (λ x a. c.in-Err.ensures.refused (submission_of x s) (handed_in x s t _ a (ap declared_by c.as_slice-fragments.ensures.value)) refl) c.print_refusal.ensures

pub returns-in-Ok-clause-judged : goal.returns-in-Ok-clause-judged
returns-in-Ok-clause-judged g c =
    let t = c.args.table.now in
    let s = c.args.bundle.submission in
    run_judged t c.args.bundle _
    (λ x a. c.in-Ok.ensures.accepted (submission_of x s) (handed_in x s t _ a (ap declared_by c.as_slice-fragments.ensures.value)) refl) c.print_accepted.ensures.status

pub returns-in-Err-clause-judged : goal.returns-in-Err-clause-judged
returns-in-Err-clause-judged g c =
    let t = c.args.table.now in
    let s = c.args.bundle.submission in
    fault_judged t c.args.bundle c.in-Err.fault _
    (λ x a. c.in-Err.ensures.refused (submission_of x s) (handed_in x s t _ a (ap declared_by c.as_slice-fragments.ensures.value)) refl) c.print_refusal.ensures
