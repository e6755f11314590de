use Rattle.std.proofs.Common.{sym, ◌∙◌}
use Rattle.cedar_gate_rules.proofs.Failing.{one_fails}
use Rattle.cedar_gate_rules.specs.Rules.{names_known}
use Rattle.cedar_store_policies.specs.Policies.{policy_of}
use Rattle.cedar_gate_rules.proofs.scoped_policies.policies_keep.Goals as goal

pub returns-then-not-branch : goal.returns-then-not-branch
returns-then-not-branch g c =
    one_fails policy_of (names_known c.args.rule (g.S.DeclaredAttributes.schema c.args.schema.now)) c.args.policies.now c.loop-policy.policy-index c.policy-item.result c.loop-policy-test.true c.policy-item.is
    (sym c.in_ok-policy_keeps.ensures ∙ c.if-not-branch.true)
