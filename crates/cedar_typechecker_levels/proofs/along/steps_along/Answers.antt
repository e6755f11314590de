use Rattle.std.proofs.Common.{ap}
use Rattle.cedar_typechecker_environments.specs.Settings.{setting_of}
use Rattle.cedar_typechecker_levels.specs.Marked.{type_in}
use Rattle.cedar_typechecker_levels.proofs.OfPaths.{steps_none}
use Rattle.cedar_typechecker_levels.proofs.along.steps_along.Goals as goal

pub returns-in-None : goal.returns-in-None
returns-in-None g c = steps_none (setting_of g.S.DeclaredAttributes.schema g.S.TypingSchema.table c.args.world.now) c.args.attrs.now (type_in c.args.ty) (type_in c.loop-attr.here) c.loop-attr.steps c.loop-attr.attr-index c.attr-item.result _ c.loop-attr-test.true c.attr-item.is (ap type_in c.in-None.is) c.loop-attr.invariant
