use Rattle.std.proofs.Common.{map, take, subst}
use Rattle.cedar_schema_joins.specs.Modes.{mode_of}
use Rattle.cedar_typechecker_environments.specs.Settings.{environment_of}
use Rattle.cedar_typechecker_policies.specs.Findings.{ChecksOver, policy_in, level_in}
use Rattle.cedar_typechecker_policies.proofs.Loops.{seen_more}
use Rattle.cedar_typechecker_policies.proofs.findings.check_over.Goals as goal

pub loop-env-preserved : goal.loop-env-preserved
loop-env-preserved g c =
    let q = c.args.policy.now in
    subst
    (λ es. ChecksOver (level_in q) (mode_of c.args.mode) (g.S.DeclaredAttributes.schema c.args.schema.now) (g.S.TypingSchema.table c.args.schema.now) (policy_in q) es c.add_environment.new.found)
    (seen_more environment_of c.args.envs.now c.loop-env.env-index c.env-item.result c.env-item.result c.loop-env-test.true c.env-item.is)
    (c.in_ok-add_environment.ensures (map environment_of (take c.loop-env.env-index c.args.envs.now)) c.loop-env.invariant)
