use Rattle.std.proofs.Common.{◌≡◌}
use Rattle.cedar_typechecker_environments.specs.Settings.{setting_of}
use Rattle.cedar_typechecker_levels.specs.Marked.{type_in}
use Rattle.cedar_typechecker_levels.proofs.OfPaths.{FieldsSoFar}
use Rattle.cedar_typechecker_levels.proofs.along.fields_along.Given as goal

abbrev pub invariant-loop-attr : goal.invariant-loop-attr
invariant-loop-attr g l = (l.count ≡ l.attr-index) × FieldsSoFar (setting_of g.S.DeclaredAttributes.schema g.S.TypingSchema.table l.world) l.attrs (type_in l.initial.here) (type_in l.here) l.attr-index
