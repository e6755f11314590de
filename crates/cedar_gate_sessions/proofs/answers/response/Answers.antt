use Rattle.std.proofs.Common.{false, sym, subst, ◌∙◌}
use Rattle.cedar_expr_model.specs.ListLaws.{AreDistinct}
use Rattle.cedar_store_policies.specs.Policies.{policy_of}
use Rattle.cedar_gate_sessions.specs.Verdicts.{must_by}
use Rattle.cedar_gate_sessions.proofs.Marked.{decision_is, reasons_are, picks_apart}
use Rattle.cedar_gate_sessions.proofs.answers.response.Goals as goal

pub returns : goal.returns
returns c = λ s n same errs distinct.
    let ps = c.args.policies.now in
    let vs = c.args.verdicts.now in
    let forbids = c.any_satisfied-forbids.result in
    let apart = subst AreDistinct (sym c.in_ok-ids.ensures) (picks_apart policy_of s n ps vs same distinct (must_by forbids false)) in
    c.new.ensures
    ∙ (λ i. record {
      decision = (c.decision-decision.ensures ∙ decision_is policy_of s n ps vs same distinct c.any_satisfied-permits.result forbids c.any_satisfied-permits.ensures c.any_satisfied-forbids.ensures) i;
      reasons = (c.in_ok-reasons.ensures apart ∙ c.in_ok-ids.ensures ∙ reasons_are policy_of s n ps vs same distinct forbids c.any_satisfied-forbids.ensures) i;
      errors = errs i;
    })
