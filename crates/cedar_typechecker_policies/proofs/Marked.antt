-- The types of the parts of an expression are the same as typing and as levels see them.
use Rattle.std.proofs.Common.{◌≡◌, Option, refl}
use Rattle.cedar_expr_trees.specs.declared.expr.ExprKind.{ExprKind, Row_of-Expr, end_of-Expr, more_of-Expr, Lit, Var, Slot, Unknown, If', And', Or', UnaryApp', BinaryApp', ExtensionFunctionApp', GetAttr', HasAttr', ExtHasAttr', Like', Is', Set', Record'}
use Rattle.cedar_schema_types.specs.declared.types.Type.{«Type» as CodeType}
use Rattle.cedar_typechecker_model.specs.Typed.{mark, marks, one, two, three}
use Rattle.cedar_typechecker_levels.specs.Marked as levels
use Rattle.cedar_typechecker_levels.specs.Marked.{type_in}
use Rattle.cedar_typechecker_answers.specs.Marked as nodes

mutual
  pub same_kinds : (k : ExprKind (Option CodeType)) → nodes.kind_marks k ≡ levels.kind_marks k
  same_kinds (Lit l) = refl
  same_kinds (Var x) = refl
  same_kinds (Slot s) = refl
  same_kinds (Unknown u) = refl
  same_kinds (If' p k l d q m n e r s u f) = λ i. three (mark (type_in d) (same_kinds k i)) (mark (type_in e) (same_kinds m i)) (mark (type_in f) (same_kinds s i))
  same_kinds (And' p k l d q m n e) = λ i. two (mark (type_in d) (same_kinds k i)) (mark (type_in e) (same_kinds m i))
  same_kinds (Or' p k l d q m n e) = λ i. two (mark (type_in d) (same_kinds k i)) (mark (type_in e) (same_kinds m i))
  same_kinds (UnaryApp' o p k l d) = λ i. one (mark (type_in d) (same_kinds k i))
  same_kinds (BinaryApp' o p k l d q m n e) = λ i. two (mark (type_in d) (same_kinds k i)) (mark (type_in e) (same_kinds m i))
  same_kinds (ExtensionFunctionApp' f p s row) = same_rows row
  same_kinds (GetAttr' p k l d a) = λ i. one (mark (type_in d) (same_kinds k i))
  same_kinds (HasAttr' p k l d a) = λ i. one (mark (type_in d) (same_kinds k i))
  same_kinds (ExtHasAttr' p k l d as_) = λ i. one (mark (type_in d) (same_kinds k i))
  same_kinds (Like' p k l d q) = λ i. one (mark (type_in d) (same_kinds k i))
  same_kinds (Is' p k l d n) = λ i. one (mark (type_in d) (same_kinds k i))
  same_kinds (Set' p s row) = same_rows row
  same_kinds (Record' p s row) = same_rows row

  same_rows : {n : _} (row : Row_of-Expr (Option CodeType) n) → nodes.row_marks row ≡ levels.row_marks row
  same_rows end_of-Expr = refl
  same_rows (more_of-Expr k l d rest) = λ i. marks (mark (type_in d) (same_kinds k i)) (same_rows rest i)
