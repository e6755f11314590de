use Rattle.std.proofs.Common.{sym, ◌∙◌}
use Rattle.cedar_gate_accepted.specs.Checks.{kind_asked, is_excused_for}
use Rattle.cedar_gate_accepted.proofs.Loops.{one_fails}
use Rattle.cedar_store_policies.specs.Policies.{policy_of}
use Rattle.cedar_typechecker_environments.specs.Settings.{environment_of}
use Rattle.cedar_gate_accepted.proofs.irrelevant.are_excused.Goals as goal

pub returns-then-not-branch : goal.returns-then-not-branch
returns-then-not-branch g c =
    sym (one_fails environment_of (is_excused_for (kind_asked c.args.kind.now) (g.S.DeclaredAttributes.schema c.args.schema.now) (g.S.TypingSchema.table c.args.schema.now) (policy_of c.args.policy.now)) c.args.envs.now c.loop-env.env-index c.env-item.result c.loop-env-test.true c.env-item.is
    (sym c.in_ok-is_excused_in.ensures ∙ c.if-not-branch.true))
