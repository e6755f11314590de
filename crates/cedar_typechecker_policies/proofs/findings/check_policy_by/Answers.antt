use Rattle.std.proofs.Common.{map, ap, ◌∙◌, subst, IfOk}
use Rattle.cedar_schema_joins.specs.Modes.{mode_of}
use Rattle.cedar_typechecker_environments.specs.Settings.{environment_of}
use Rattle.cedar_typechecker_policies.specs.Findings.{ChecksOver, policy_in, level_in}
use Rattle.cedar_typechecker_policies.proofs.findings.check_policy_by.Goals as goal

pub returns : goal.returns
returns g c own =
    let q = c.args.policy.now in
    subst
    (λ es. IfOk c.check_over.result (ChecksOver (level_in q) (mode_of c.args.mode) (g.S.DeclaredAttributes.schema c.args.schema.now) (g.S.TypingSchema.table c.args.schema.now) (policy_in q) es))
    (ap (map environment_of) c.as_slice.ensures ∙ c.in_ok-envs.ensures own)
    c.check_over.ensures
