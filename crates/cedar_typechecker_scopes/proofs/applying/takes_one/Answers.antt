use Rattle.std.proofs.Common.{sym, ◌∙◌}
use Rattle.cedar_typechecker_environments.specs.Settings.{environment_of}
use Rattle.cedar_typechecker_scopes.specs.Asking.{asked_of, takes, part_asked, perhaps_mended}
use Rattle.cedar_typechecker_scopes.proofs.Loops.{any_here}
use Rattle.cedar_typechecker_scopes.proofs.applying.takes_one.Goals as goal

pub returns-then-takes : goal.returns-then-takes
returns-then-takes g c = sym (any_here (takes (g.S.DeclaredAttributes.schema c.args.schema.now) (asked_of c.args.asked) c.args.part (perhaps_mended c.args.mended (part_asked (asked_of c.args.asked) c.args.part))) environment_of c.args.envs.now c.loop-env.env-index c.env-item.result _ c.loop-env-test.true c.env-item.is (sym c.takes.ensures ∙ c.if-takes.true))
