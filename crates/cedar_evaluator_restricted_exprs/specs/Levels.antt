-- What is left of one level of a restricted expression, whose parts have a limit.
-- Rule: restricted expressions; partial evaluation (docs/RULES.md).
use Rattle.std.specs.Prelude.{ℕ, List, map, Result}
use Rattle.std.specs.declared.alloc.Global.{Global}
use Rattle.std.specs.declared.vec.Vec.{Vec}
use Rattle.cedar_expr_names.specs.Views.{plain_name_of}
use Rattle.cedar_expr_names.specs.declared.name.Name.{Name}
use Rattle.cedar_expr_model.specs.Builder.{trees}
use Rattle.cedar_expr_model.specs.Tree.{Tree, call, set_literal}
use Rattle.cedar_expr_values.specs.declared.extension.ExtValue.{ExtValue}
use Rattle.cedar_expr_trees.specs.Trees.{tree_of}
use Rattle.cedar_expr_trees.specs.declared.expr.Expr.{Expr}
use Rattle.cedar_expr_partial.specs.declared.partial_value.PartialValue.{PartialValue}
use Rattle.cedar_evaluator_model.specs.Evaluation.{evaluated, node, pieces_of}
use Rattle.cedar_evaluator_model.specs.Scope.{Scope}
use Rattle.cedar_evaluator_restricted_exprs.specs.Lefts.{Leaves, ArePieces}
use Rattle.cedar_evaluator_restricted_exprs.specs.declared.fault.RestrictedFault.{RestrictedFault}

-- This is left of the expression.
abbrev pub LeavesLevel : Scope → ℕ → Tree → Result (PartialValue ExtValue) RestrictedFault → Type 0
LeavesLevel s n t r = Leaves (node s (evaluated s n) t) r

-- These pieces are left of several expressions.
abbrev pub PiecesWithin : Scope → ℕ → List Tree → Result (Vec (PartialValue ExtValue) Global) RestrictedFault → Type 0
PiecesWithin s n ts r = ArePieces (pieces_of (evaluated s n) ts) r

-- a call of the function of this name at these arguments, and the set of these members
abbrev pub call_of : Name → List (Expr Unit) → Tree
call_of f es = call (plain_name_of f) (trees (map tree_of es))

abbrev pub set_of : List (Expr Unit) → Tree
set_of es = set_literal (trees (map tree_of es))
