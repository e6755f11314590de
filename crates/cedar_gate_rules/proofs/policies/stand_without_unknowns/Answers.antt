use Rattle.std.proofs.Common.{sym, ap, ◌∙◌}
use Rattle.std.specs.Prelude.{not}
use Rattle.cedar_expr_model.specs.Unknowns.{has_unknown}
use Rattle.cedar_store_model.specs.Policy.{condition}
use Rattle.cedar_store_policies.specs.Policies.{policy_of}
use Rattle.cedar_gate_rules.proofs.Failing.{one_fails}
use Rattle.cedar_gate_rules.proofs.policies.stand_without_unknowns.Goals as goal

pub returns-then-contains_unknown : goal.returns-then-contains_unknown
returns-then-contains_unknown c =
    one_fails policy_of (λ p. not (has_unknown (condition p))) c.args.policies.now c.loop-policy.policy-index c.policy-item.result c.loop-policy-test.true c.policy-item.is
    (ap not (ap has_unknown (sym c.condition.ensures) ∙ sym c.contains_unknown.ensures ∙ c.if-contains_unknown.true))
