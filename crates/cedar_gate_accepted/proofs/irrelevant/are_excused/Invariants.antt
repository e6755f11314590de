use Rattle.std.proofs.Common.{◌≡◌, true, map, take}
use Rattle.std.specs.List.{list_all}
use Rattle.cedar_gate_accepted.specs.Checks.{kind_asked, is_excused_for}
use Rattle.cedar_store_policies.specs.Policies.{policy_of}
use Rattle.cedar_typechecker_environments.specs.Settings.{environment_of}
use Rattle.cedar_gate_accepted.proofs.irrelevant.are_excused.Given as goal

abbrev pub invariant-loop-env : goal.invariant-loop-env
invariant-loop-env g l = list_all (is_excused_for (kind_asked l.kind) (g.S.DeclaredAttributes.schema l.schema) (g.S.TypingSchema.table l.schema) (policy_of l.policy)) (map environment_of (take l.env-index l.envs)) ≡ true
