use Rattle.std.proofs.Common.{sym, ◌∙◌}
use Rattle.cedar_gate_model.specs.Acceptance.{is_linked}
use Rattle.cedar_store_policies.specs.Policies.{policy_of}
use Rattle.cedar_gate_rules.proofs.Failing.{one_fails}
use Rattle.cedar_gate_rules.proofs.policies.are_linked.Goals as goal

pub returns-then-not-is_linked : goal.returns-then-not-is_linked
returns-then-not-is_linked c =
    one_fails policy_of is_linked c.args.policies.now c.loop-policy.policy-index c.policy-item.result c.loop-policy-test.true c.policy-item.is (sym c.is_linked.ensures ∙ c.if-not-is_linked.true)
