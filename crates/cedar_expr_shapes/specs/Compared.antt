-- Shapes are totally ordered, the order finds no difference exactly between equal ones, and equal ones feed a hasher alike.
-- Expressions are equal by their trees and their data.
-- Rule: shapes; expressions (docs/RULES.md).
use Rattle.std.specs.Prelude.{◌≡◌, ◌↔◌, ◌&&◌, Bool, true, map}
use Rattle.std.proofs.Common.{ap}
use Rattle.std.specs.Cmp.Lexicographic.{pointwise}
use Rattle.std.specs.Cmp.{IsEquivalence, IsTotalOrder, eq_by_cmp_equiv}
use Rattle.std.specs.declared.cmp.Ordering.TheVariants.{Equal}
use Rattle.cedar_expr_model.specs.Tree.{Tree}
use Rattle.cedar_expr_model.specs.Shape.{tree_cmp, tree_eq}
use Rattle.cedar_expr_model.proofs.ShapeOrder.{tree_linear, trees_decide}
use Rattle.cedar_expr_trees.specs.Positions.{positions}
use Rattle.cedar_expr_trees.specs.Trees.{tree_of, data_of}
use Rattle.cedar_expr_trees.specs.declared.expr.Expr.{Expr}
use Rattle.cedar_expr_shapes.specs.Hashed.{tree_input}

-- the order is total
pub trees_are_ordered : IsTotalOrder tree_cmp
trees_are_ordered = tree_linear.total

-- equality is an equivalence
pub trees_are_equal : IsEquivalence tree_eq
trees_are_equal = eq_by_cmp_equiv trees_are_ordered

-- equal shapes feed a hasher alike
abbrev pub HashedAlike : Type 0
HashedAlike = (t u : Tree) → tree_eq t u ≡ true → tree_input t ≡ tree_input u

pub trees_are_hashed : HashedAlike
trees_are_hashed t u h = ap tree_input ((trees_decide t u).0 h)

-- the order finds no difference exactly between equal ones
abbrev pub EqualByOrder : Type 0
EqualByOrder = (t u : Tree) → (tree_cmp t u ≡ Equal) ↔ (tree_eq t u ≡ true)

-- an equality of expressions is one of their trees and one of the data of their subexpressions, in order
abbrev pub EqualByTrees : {T : Type 0} → (Expr T → Expr T → Bool) → (T → T → Bool) → Type 0
EqualByTrees {T} eq data_eq = (e f : Expr T) → eq e f ≡ (tree_eq (tree_of e) (tree_of f) && pointwise data_eq (map data_of (positions e)) (map data_of (positions f)))
