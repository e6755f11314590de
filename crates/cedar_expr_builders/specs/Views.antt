-- What contracts see of the own builder, and of records by names.
-- Rule: expressions (docs/RULES.md).
use Rattle.std.specs.Prelude.{Bool, List, [], ◌++◌, map, Option, Some, None}
use Rattle.std.specs.declared.alloc.Global.{Global}
use Rattle.std.specs.declared.rc.RcStr.{RcStr}
use Rattle.cedar_expr_names.specs.declared.loc.Loc.{Loc}
use Rattle.cedar_expr_model.specs.Name.{Name}
use Rattle.cedar_expr_model.specs.Builder.{written_truth}
use Rattle.cedar_expr_trees.specs.Positions.{positions}
use Rattle.cedar_expr_trees.specs.Trees.{tree_of}
use Rattle.cedar_expr_trees.specs.declared.expr.Expr.{Expr}
use Rattle.cedar_expr_builders.specs.declared.expr.ExprBuilder.{ExprBuilder}

-- pairs with what their expressions mean
abbrev pub meant : {A M : Type 0} → (A → M) → List (RcStr Global × A) → List (RcStr Global × M)
meant means ps = map (λ p. (p.0, means p.1)) ps

-- the place, and the data, that a builder gives to what it makes
abbrev pub builder_place : {T : Type 0} → ExprBuilder T → Option Loc
builder_place b = b.source_loc

abbrev pub builder_data : {T : Type 0} → ExprBuilder T → T
builder_data b = b.«data»

-- no call is refused
abbrev pub refuses_nothing : {M R : Type 0} → Name → List M → Option R
refuses_nothing f xs = None

-- What stands below `and` or `or` of two expressions: both with all that is below them, and nothing where the two are folded into
-- a literal.
abbrev unless_folded : {A : Type 0} → Option Bool → Option Bool → List A → List A
unless_folded (Some a) (Some b) parts = []
unless_folded (Some a) None parts = parts
unless_folded None q parts = parts

abbrev pub beside : {T : Type 0} → Expr T → Expr T → List (Expr T)
beside e f = unless_folded (written_truth (tree_of e)) (written_truth (tree_of f)) (positions e ++ positions f)
