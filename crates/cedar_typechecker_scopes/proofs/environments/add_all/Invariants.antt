use Rattle.std.proofs.Common.{◌≡◌, ◌++◌, map, take}
use Rattle.std.specs.List.{flat_map}
use Rattle.cedar_typechecker_environments.specs.Settings.{environment_of}
use Rattle.cedar_typechecker_scopes.specs.Uses.{use_of, linked_environments}
use Rattle.cedar_typechecker_scopes.proofs.environments.add_all.Given as goal

abbrev pub invariant-loop-env : goal.invariant-loop-env
invariant-loop-env g l = map environment_of l.found.items ≡ map environment_of l.initial.found.items ++ flat_map (linked_environments (g.S.DeclaredAttributes.schema l.schema) (use_of l.principal) (use_of l.resource)) (map environment_of (take l.env-index l.envs))
