-- Whether what stands in calls, sets and records is restricted.
-- Rule: restricted expressions (docs/RULES.md).
use Rattle.std.specs.Prelude.{List, Bool, is_none}
use Rattle.std.specs.declared.alloc.Global.{Global}
use Rattle.std.specs.declared.rc.RcStr.{RcStr}
use Rattle.cedar_expr_model.specs.Builder.{trees, tree_fields}
use Rattle.cedar_expr_model.specs.Lists.{first_found}
use Rattle.cedar_expr_model.specs.Parts.{subexpressions_among, subexpressions_in_fields}
use Rattle.cedar_expr_model.specs.Restricted.{feature_here}
use Rattle.cedar_expr_model.specs.Tree.{Tree}
use Rattle.cedar_expr_trees.specs.Trees.{named, field_trees}
use Rattle.cedar_expr_trees.specs.declared.expr.Expr.{Expr}

-- each of these expressions
abbrev pub are_restricted : List Tree → Bool
are_restricted ts = is_none (first_found feature_here (subexpressions_among (trees ts)))

-- each of these fields
abbrev pub have_restricted : List (RcStr Global × Expr Unit) → Bool
have_restricted es = is_none (first_found feature_here (subexpressions_in_fields (tree_fields (named (field_trees es)))))
