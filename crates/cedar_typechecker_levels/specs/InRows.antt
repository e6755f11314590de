-- Expressions in a row, and the fields of records, as the walk goes over them.
-- Rule: levels (docs/RULES.md).
use Rattle.std.specs.Prelude.{Option, ℕ, List, [], ◌∷◌, ◌++◌, if◌then◌else◌}
use Rattle.std.specs.List.{flat_map}
use Rattle.std.specs.Map.{values_of}
use Rattle.std.specs.Rc.{rc_str_bytes}
use Rattle.std.specs.Str.{bytes_eq}
use Rattle.std.specs.declared.alloc.Global.{Global}
use Rattle.std.specs.declared.rc.RcStr.{RcStr}
use Rattle.cedar_expr_model.specs.Name.{Text}
use Rattle.cedar_expr_trees.specs.Trees.{tree_of}
use Rattle.cedar_expr_trees.specs.declared.expr.Expr.{Expr}
use Rattle.cedar_schema_types.specs.declared.types.Type.{«Type» as CodeType}
use Rattle.cedar_typechecker_model.specs.Levels.{Violation}
use Rattle.cedar_typechecker_model.specs.Rules.{Setting}
use Rattle.cedar_typechecker_model.specs.Reported.{steps, reported, reached}
use Rattle.cedar_typechecker_levels.specs.Marked.{marks_of}
use Rattle.cedar_typechecker_levels.specs.Paths.{path_of}
use Rattle.cedar_typechecker_levels.specs.declared.path.Path.{Path}

abbrev pub Fields : Type 0
Fields = List (RcStr Global × Expr (Option CodeType))

-- of one expression
abbrev pub steps_of : List Text → Expr (Option CodeType) → ℕ
steps_of path e = steps path (tree_of e) (marks_of e)

abbrev pub reported_of : ℕ → Setting → Expr (Option CodeType) → List Violation
reported_of n s e = reported n s (tree_of e) (marks_of e)

abbrev pub reached_of : ℕ → Setting → List Text → Expr (Option CodeType) → List Violation
reached_of n s path e = reached n s path (tree_of e) (marks_of e)

-- of the first field of this name, and of all fields but that
abbrev pub steps_in : Text → List Text → Fields → ℕ
steps_in a path [] = 0
steps_in a path (p ∷ ps) = if bytes_eq a (rc_str_bytes p.0) then steps_of path p.1 else steps_in a path ps

abbrev pub others_in : ℕ → Setting → Text → Fields → List Violation
others_in n s a [] = []
others_in n s a (p ∷ ps) = if bytes_eq a (rc_str_bytes p.0) then flat_map (reported_of n s) (values_of ps) else (reported_of n s p.1 ++ others_in n s a ps)

abbrev pub reached_in : ℕ → Setting → Text → List Text → Fields → List Violation
reached_in n s a path [] = []
reached_in n s a path (p ∷ ps) = if bytes_eq a (rc_str_bytes p.0) then reached_of n s path p.1 else reached_in n s a path ps

-- by names of the code
abbrev pub field_reached : ℕ → Setting → RcStr Global → Path → Fields → List Violation
field_reached n s a path ps = reached_in n s (rc_str_bytes a) (path_of path) ps
