-- A code violation as the model's.
-- Rule: levels (docs/RULES.md).
use Rattle.std.specs.Prelude.{◌≡◌, ◌++◌, List, map}
use Rattle.std.specs.declared.alloc.Global.{Global}
use Rattle.std.specs.declared.vec.Vec.{Vec}
use Rattle.cedar_expr_trees.specs.Trees.{tree_of}
use Rattle.cedar_typechecker_model.specs.Levels.{Violation}
use Rattle.cedar_typechecker_levels.specs.declared.violation.LevelViolation.{LevelViolation}

abbrev pub violation_of : LevelViolation → Violation
violation_of v = record { at = tree_of v.at.now; required = v.required }

-- To the violations these are appended.
abbrev pub AddsViolations : Vec LevelViolation Global → Vec LevelViolation Global → List Violation → Type 0
AddsViolations old new vs = map violation_of new.items ≡ map violation_of old.items ++ vs
