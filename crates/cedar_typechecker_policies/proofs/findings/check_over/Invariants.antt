use Rattle.std.proofs.Common.{map, take}
use Rattle.cedar_schema_joins.specs.Modes.{mode_of}
use Rattle.cedar_typechecker_environments.specs.Settings.{environment_of}
use Rattle.cedar_typechecker_policies.specs.Findings.{ChecksOver, policy_in, level_in}
use Rattle.cedar_typechecker_policies.proofs.findings.check_over.Given as goal

abbrev pub invariant-loop-env : goal.invariant-loop-env
invariant-loop-env g l = ChecksOver (level_in l.policy) (mode_of l.mode) (g.S.DeclaredAttributes.schema l.schema) (g.S.TypingSchema.table l.schema) (policy_in l.policy) (map environment_of (take l.env-index l.envs)) l.found
