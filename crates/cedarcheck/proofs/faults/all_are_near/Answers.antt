use Rattle.std.proofs.Common.{◌==◌, ap, sym, ◌∙◌}
use Rattle.cedar_expr_model.specs.Lists.{is_nil}
use Rattle.cedar_gate_accepted.proofs.Listed.{nil_length}
use Rattle.cedar_gate_rules.proofs.Failing.{one_fails}
use Rattle.cedar_store_policies.specs.Policies.{policy_of}
use Rattle.cedar_typechecker_model.specs.Verdicts.{policy_violations}
use Rattle.cedarcheck.proofs.faults.all_are_near.Goals as goal

pub returns-then-not-is_empty : goal.returns-then-not-is_empty
returns-then-not-is_empty g c =
    one_fails policy_of (λ p. is_nil (policy_violations c.args.level (g.S.DeclaredAttributes.schema c.args.schema.now) (g.S.TypingSchema.table c.args.schema.now) p)) c.args.policies.now c.loop-policy.policy-index c.policy-item.result c.loop-policy-test.true c.policy-item.is
    (sym c.in_ok-found.ensures.near ∙ nil_length c.in_ok-found.found.violations.items ∙ sym (ap (λ n. n == 0) c.in_ok-found.found.violations.ok.0) ∙ sym c.is_empty.ensures ∙ c.if-not-is_empty.true)
