use Rattle.std.proofs.Common.{sym, ◌∙◌}
use Rattle.cedar_typechecker_environments.specs.Settings.{environment_of}
use Rattle.cedar_typechecker_scopes.specs.Applying.{fits}
use Rattle.cedar_typechecker_scopes.specs.Asking.{asked_of}
use Rattle.cedar_typechecker_scopes.proofs.Loops.{any_here}
use Rattle.cedar_typechecker_scopes.proofs.applying.fits_one.Goals as goal

pub returns-then-fits : goal.returns-then-fits
returns-then-fits g c = sym (any_here (fits (g.S.DeclaredAttributes.schema c.args.schema.now) (asked_of c.args.asked)) environment_of c.args.envs.now c.loop-env.env-index c.env-item.result _ c.loop-env-test.true c.env-item.is (sym c.fits.ensures ∙ c.if-fits.true))
