use Rattle.std.proofs.Common.{drop}
use Rattle.cedar_typechecker_environments.specs.Settings.{setting_of}
use Rattle.cedar_typechecker_levels.specs.Marked.{type_in}
use Rattle.cedar_typechecker_levels.proofs.OfPaths.{StepsSoFar}
use Rattle.cedar_typechecker_levels.proofs.along.steps_along.Given as goal

abbrev pub invariant-loop-attr : goal.invariant-loop-attr
invariant-loop-attr g l = StepsSoFar (setting_of g.S.DeclaredAttributes.schema g.S.TypingSchema.table l.world) l.attrs (type_in l.initial.here) (type_in l.here) l.steps (drop l.attr-index l.attrs)
