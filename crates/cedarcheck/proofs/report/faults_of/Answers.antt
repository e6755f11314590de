use Rattle.std.proofs.Common.{List, refl, ap, sym, subst}
use Rattle.std.specs.declared.alloc.Global.{Global}
use Rattle.std.specs.declared.vec.Vec.{Vec}
use Rattle.cedar_evaluator_model.specs.Functions.{Functions}
use Rattle.cedar_evaluator_restricted_exprs.specs.Answers.{AgreesWith}
use Rattle.cedar_expr_functions.specs.Tables.{functions_of, ordered_of}
use Rattle.cedar_gate.proofs.Bundled.{handed_in}
use Rattle.cedar_gate_accepted.proofs.Listed.{on_ok}
use Rattle.cedar_gate_accepted.specs.Handed.{IsHandedIn}
use Rattle.cedar_gate_bundles.specs.Bundles.{submission_of}
use Rattle.cedar_gate_fragments.specs.Written.{declared_by}
use Rattle.cedar_gate_model.specs.Acceptance.{Submission}
use Rattle.cedar_gate_rules.specs.Limit.{levels_of}
use Rattle.cedar_gate_rules.specs.Policies.{policies_of}
use Rattle.cedar_store_policies.specs.declared.policy.Policy.{Policy}
use Rattle.cedarcheck.specs.Faults.{HasNumbers, numbers_in}
use Rattle.cedarcheck.specs.declared.findings.Finding.{Finding}
use Rattle.cedarcheck.proofs.report.faults_of.Goals as goal

pub returns : goal.returns
returns g c =
    let t = c.args.table.now in
    let s = c.args.submission.now in
    let d = declared_by c.as_slice-fragments.result.now in
    on_ok c.with_numbers.result (λ (fs : Vec Finding Global). (m : Submission) → HasNumbers m c.as_slice.result.now → HasNumbers m (numbers_in fs.items))
    (λ (fs : Vec Finding Global). (x : Functions) → AgreesWith t x → HasNumbers (submission_of x s) (numbers_in fs.items))
    (λ fs h x a. h (submission_of x s)
    (subst (HasNumbers (submission_of x s)) (sym c.as_slice.ensures.value)
    (c.in_ok-numbers.ensures (submission_of x s)
    (subst (λ (ps : List Policy). IsHandedIn d (policies_of ps) (functions_of t) (ordered_of t) (levels_of s.limit) (submission_of x s)) (sym c.as_slice-policies.ensures.value)
    (handed_in x s t d a (ap declared_by c.as_slice-fragments.ensures.value)))
    refl)))
    c.with_numbers.ensures
