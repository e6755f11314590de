use Rattle.std.proofs.Common.{◌≡◌, false, map, take}
use Rattle.std.specs.List.{list_any}
use Rattle.cedar_typechecker_environments.specs.Settings.{environment_of}
use Rattle.cedar_typechecker_scopes.specs.Asking.{asked_of, takes, part_asked, perhaps_mended}
use Rattle.cedar_typechecker_scopes.proofs.applying.takes_one.Given as goal

abbrev pub invariant-loop-env : goal.invariant-loop-env
invariant-loop-env g l = list_any (takes (g.S.DeclaredAttributes.schema l.schema) (asked_of l.asked) l.part (perhaps_mended l.mended (part_asked (asked_of l.asked) l.part))) (map environment_of (take l.env-index l.envs)) ≡ false
