-- The types of an expression and its parts, as the data of a code expression has them.
-- Rule: levels (docs/RULES.md).
use Rattle.std.specs.Prelude.{Option, option_map, ℕ, List}
use Rattle.cedar_expr_trees.specs.Trees.{tree_of}
use Rattle.cedar_expr_trees.specs.declared.expr.Expr.{Expr}
use Rattle.cedar_expr_trees.specs.declared.expr.ExprKind.{ExprKind, Row_of-Expr, end_of-Expr, more_of-Expr, Lit, Var, Slot, Unknown, If', And', Or', UnaryApp', BinaryApp', ExtensionFunctionApp', GetAttr', HasAttr', ExtHasAttr', Like', Is', Set', Record'}
use Rattle.cedar_schema_model.specs.Types.{Ty}
use Rattle.cedar_schema_types.specs.Types.{type_of}
use Rattle.cedar_schema_types.specs.declared.types.Type.{«Type» as CodeType}
use Rattle.cedar_typechecker_model.specs.Counts.{violations_at}
use Rattle.cedar_typechecker_model.specs.Levels.{Violation}
use Rattle.cedar_typechecker_model.specs.Rules.{Setting}
use Rattle.cedar_typechecker_model.specs.Typed.{Marks, mark, MarkRow, no_marks, marks, one, two, three}

abbrev pub type_in : Option CodeType → Option Ty
type_in d = option_map type_of d

abbrev mutual
  -- the types of the parts
  pub kind_marks : ExprKind (Option CodeType) → MarkRow
  kind_marks (Lit l) = no_marks
  kind_marks (Var x) = no_marks
  kind_marks (Slot s) = no_marks
  kind_marks (Unknown u) = no_marks
  kind_marks (If' p k l d q m n e r s u f) = three (mark (type_in d) (kind_marks k)) (mark (type_in e) (kind_marks m)) (mark (type_in f) (kind_marks s))
  kind_marks (And' p k l d q m n e) = two (mark (type_in d) (kind_marks k)) (mark (type_in e) (kind_marks m))
  kind_marks (Or' p k l d q m n e) = two (mark (type_in d) (kind_marks k)) (mark (type_in e) (kind_marks m))
  kind_marks (UnaryApp' o p k l d) = one (mark (type_in d) (kind_marks k))
  kind_marks (BinaryApp' o p k l d q m n e) = two (mark (type_in d) (kind_marks k)) (mark (type_in e) (kind_marks m))
  kind_marks (ExtensionFunctionApp' f p s row) = row_marks row
  kind_marks (GetAttr' p k l d a) = one (mark (type_in d) (kind_marks k))
  kind_marks (HasAttr' p k l d a) = one (mark (type_in d) (kind_marks k))
  kind_marks (ExtHasAttr' p k l d as_) = one (mark (type_in d) (kind_marks k))
  kind_marks (Like' p k l d q) = one (mark (type_in d) (kind_marks k))
  kind_marks (Is' p k l d n) = one (mark (type_in d) (kind_marks k))
  kind_marks (Set' p s row) = row_marks row
  kind_marks (Record' p s row) = row_marks row

  pub row_marks : {n : _} → Row_of-Expr (Option CodeType) n → MarkRow
  row_marks end_of-Expr = no_marks
  row_marks (more_of-Expr k l d rest) = marks (mark (type_in d) (kind_marks k)) (row_marks rest)

-- the types of an expression and its parts
abbrev pub marks_of : Expr (Option CodeType) → Marks
marks_of e = mark (type_in e.«data») (kind_marks e.expr_kind)

-- the violations of an expression with the types of its parts
abbrev pub typed_violations : ℕ → Setting → Expr (Option CodeType) → List Violation
typed_violations n s e = violations_at n s (tree_of e) (marks_of e)
