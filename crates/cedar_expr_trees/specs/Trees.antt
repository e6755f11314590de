-- What the code's expressions are as the model's trees.
-- Rule: expressions (docs/RULES.md).
use Rattle.std.specs.Prelude.{List, [], ◌∷◌, Option, map}
use Rattle.std.specs.Rc.{rc_str_bytes}
use Rattle.std.specs.declared.alloc.Global.{Global}
use Rattle.std.specs.declared.rc.RcStr.{RcStr}
use Rattle.cedar_expr_names.specs.declared.loc.Loc.{Loc}
use Rattle.cedar_expr_names.specs.Views.{plain_name_of, type_name_of}
use Rattle.cedar_expr_leaves.specs.Literals.{literal_of}
use Rattle.cedar_expr_leaves.specs.Patterns.{pattern_of}
use Rattle.cedar_expr_leaves.specs.Slots.{slot_of}
use Rattle.cedar_expr_leaves.specs.Variables.{var_of}
use Rattle.cedar_expr_values.specs.Fields.{by_text}
use Rattle.cedar_expr_model.specs.Name.{Text}
use Rattle.cedar_expr_model.specs.Tree.{Tree, lit, var, slot, unknown, choice, both, either, unary, binary, call, get_attr, has_attr, has_path, like, is_type, set_literal, record_literal, Trees, no_trees, tree, TreeFields, no_tree_fields, tree_field}
use Rattle.cedar_expr_leaves.specs.Operators.{unary_op_of, binary_op_of}
use Rattle.cedar_expr_trees.specs.Unknowns.{unknown_of}
use Rattle.cedar_expr_trees.specs.declared.expr.Expr.{Expr}
use Rattle.cedar_expr_trees.specs.declared.expr.ExprKind.{ExprKind, Row_of-Expr, end_of-Expr, more_of-Expr, Lit, Var, Slot, Unknown, If', And', Or', UnaryApp', BinaryApp', ExtensionFunctionApp', GetAttr', HasAttr', ExtHasAttr', Like', Is', Set', Record'}

-- the fields of a record, by the texts of their names
abbrev pub named : {A : Type 0} → List (RcStr Global × A) → List (Text × A)
named es = map by_text es

-- the names of entries
abbrev pub names_of : {A : Type 0} → List (RcStr Global × A) → List Text
names_of es = map (λ e. rc_str_bytes e.0) es

-- the tree of a kind
abbrev mutual
  pub kind_tree : {T : Type 0} → ExprKind T → Tree
  kind_tree (Lit l) = lit (literal_of l)
  kind_tree (Var x) = var (var_of x)
  kind_tree (Slot s) = slot (slot_of s)
  kind_tree (Unknown u) = unknown (unknown_of u).name (unknown_of u).annotation
  kind_tree (If' p k l d q m n e r s u f) = choice (kind_tree k) (kind_tree m) (kind_tree s)
  kind_tree (And' p k l d q m n e) = both (kind_tree k) (kind_tree m)
  kind_tree (Or' p k l d q m n e) = either (kind_tree k) (kind_tree m)
  kind_tree (UnaryApp' o p k l d) = unary (unary_op_of o) (kind_tree k)
  kind_tree (BinaryApp' o p k l d q m n e) = binary (binary_op_of o) (kind_tree k) (kind_tree m)
  kind_tree (ExtensionFunctionApp' f p s row) = call (plain_name_of f) (row_trees row)
  kind_tree (GetAttr' p k l d a) = get_attr (kind_tree k) (rc_str_bytes a)
  kind_tree (HasAttr' p k l d a) = has_attr (kind_tree k) (rc_str_bytes a)
  kind_tree (ExtHasAttr' p k l d as_) = has_path (kind_tree k) (rc_str_bytes as_.value.head) (map rc_str_bytes as_.value.tail.items)
  kind_tree (Like' p k l d q) = like (kind_tree k) (pattern_of q)
  kind_tree (Is' p k l d n) = is_type (kind_tree k) (type_name_of n)
  kind_tree (Set' p s row) = set_literal (row_trees row)
  kind_tree (Record' p s row) = record_literal (row_fields (names_of s.0) row)

  pub row_trees : {T : Type 0} {n : _} → Row_of-Expr T n → Trees
  row_trees end_of-Expr = no_trees
  row_trees (more_of-Expr k l d rest) = tree (kind_tree k) (row_trees rest)

  pub row_fields : {T : Type 0} {n : _} → List Text → Row_of-Expr T n → TreeFields
  row_fields names end_of-Expr = no_tree_fields
  row_fields [] (more_of-Expr k l d rest) = tree_field [] (kind_tree k) (row_fields [] rest)
  row_fields (a ∷ names) (more_of-Expr k l d rest) = tree_field a (kind_tree k) (row_fields names rest)

-- the tree of an expression
abbrev pub tree_of : {T : Type 0} → Expr T → Tree
tree_of e = kind_tree e.expr_kind

-- the entries of a record with the trees of their expressions
abbrev pub field_trees : {T : Type 0} → List (RcStr Global × Expr T) → List (RcStr Global × Tree)
field_trees es = map (λ e. (e.0, tree_of e.1)) es

-- the kind of an expression
abbrev pub kind_of : {T : Type 0} → Expr T → ExprKind T
kind_of e = e.expr_kind

-- where an expression stands in its source
abbrev pub place_of : {T : Type 0} → Expr T → Option Loc
place_of e = e.source_loc

-- the data that its maker gave it
abbrev pub data_of : {T : Type 0} → Expr T → T
data_of e = e.«data»
