-- The record of some fields.
-- Rule: expressions; restricted expressions (docs/RULES.md).
use Rattle.std.specs.Prelude.{List}
use Rattle.std.specs.declared.alloc.Global.{Global}
use Rattle.std.specs.declared.rc.RcStr.{RcStr}
use Rattle.cedar_expr_model.specs.Builder.{tree_fields}
use Rattle.cedar_expr_model.specs.Tree.{Tree, TreeFields, record_literal}
use Rattle.cedar_expr_trees.specs.Trees.{named, field_trees}
use Rattle.cedar_expr_trees.specs.declared.expr.Expr.{Expr}

-- the fields, by their names
abbrev pub fields_in : List (RcStr Global × Expr Unit) → TreeFields
fields_in es = tree_fields (named (field_trees es))

abbrev pub fields_tree : List (RcStr Global × Expr Unit) → Tree
fields_tree es = record_literal (fields_in es)
