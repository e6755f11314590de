use Rattle.std.proofs.Common.{sym, ◌∙◌}
use Rattle.cedar_gate_model.specs.Acceptance.{keeps_slots_in_scope}
use Rattle.cedar_store_policies.specs.Policies.{policy_of}
use Rattle.cedar_gate_rules.proofs.Failing.{one_fails}
use Rattle.cedar_gate_rules.proofs.policies.keep_slots_in_scope.Goals as goal

pub returns-then-not-branch : goal.returns-then-not-branch
returns-then-not-branch c =
    one_fails policy_of keeps_slots_in_scope c.args.policies.now c.loop-policy.policy-index c.policy-item.result c.loop-policy-test.true c.policy-item.is (sym c.in_ok-keeps_slots_in_scope.ensures ∙ c.if-not-branch.true)
