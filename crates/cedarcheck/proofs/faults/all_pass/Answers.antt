use Rattle.std.proofs.Common.{sym, ◌∙◌}
use Rattle.std.proofs.lemmas.Bool.{not-true}
use Rattle.cedar_gate_rules.proofs.Failing.{one_fails}
use Rattle.cedar_store_policies.specs.Policies.{policy_of}
use Rattle.cedar_typechecker_model.specs.Verdicts.{passes}
use Rattle.cedarcheck.proofs.faults.all_pass.Goals as goal

pub returns-then-not-found : goal.returns-then-not-found
returns-then-not-found g c =
    one_fails policy_of (passes (g.S.DeclaredAttributes.schema c.args.schema.now) (g.S.TypingSchema.table c.args.schema.now)) c.args.policies.now c.loop-policy.policy-index c.policy-item.result c.loop-policy-test.true c.policy-item.is
    (sym c.in_ok-found.ensures.typed ∙ not-true _ c.if-not-found.true)
