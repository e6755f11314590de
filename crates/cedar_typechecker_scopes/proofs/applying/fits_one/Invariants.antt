use Rattle.std.proofs.Common.{◌≡◌, false, map, take}
use Rattle.std.specs.List.{list_any}
use Rattle.cedar_typechecker_environments.specs.Settings.{environment_of}
use Rattle.cedar_typechecker_scopes.specs.Applying.{fits}
use Rattle.cedar_typechecker_scopes.specs.Asking.{asked_of}
use Rattle.cedar_typechecker_scopes.proofs.applying.fits_one.Given as goal

abbrev pub invariant-loop-env : goal.invariant-loop-env
invariant-loop-env g l = list_any (fits (g.S.DeclaredAttributes.schema l.schema) (asked_of l.asked)) (map environment_of (take l.env-index l.envs)) ≡ false
