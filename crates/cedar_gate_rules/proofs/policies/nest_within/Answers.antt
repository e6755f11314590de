use Rattle.std.proofs.Common.{sym, ap, ◌∙◌}
use Rattle.std.specs.Prelude.{nat_le}
use Rattle.cedar_expr_model.specs.Tree.{nesting}
use Rattle.cedar_store_model.specs.Policy.{condition}
use Rattle.cedar_store_policies.specs.Policies.{policy_of}
use Rattle.cedar_gate_rules.proofs.Failing.{one_fails}
use Rattle.cedar_gate_rules.proofs.policies.nest_within.Goals as goal

pub returns-then-not-nests_within : goal.returns-then-not-nests_within
returns-then-not-nests_within c =
    one_fails policy_of (λ p. nat_le (nesting (condition p)) c.args.limit) c.args.policies.now c.loop-policy.policy-index c.policy-item.result c.loop-policy-test.true c.policy-item.is
    (ap (λ t. nat_le (nesting t) c.args.limit) (sym c.condition.ensures) ∙ sym c.nests_within.ensures ∙ c.if-not-nests_within.true)
