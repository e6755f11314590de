-- What is asked by an evaluator, and what is left to an iterator.
-- Rule: restricted expressions (docs/RULES.md).
use Rattle.std.specs.Prelude.{List, map}
use Rattle.std.specs.Vec.Iter.{into_iter_items}
use Rattle.std.specs.declared.alloc.Global.{Global}
use Rattle.std.specs.declared.rc.RcStr.{RcStr}
use Rattle.cedar_expr_model.specs.Name.{Text}
use Rattle.cedar_expr_model.specs.Tree.{Tree}
use Rattle.cedar_evaluator_restricted_exprs.specs.Views.{restricted_pair}
use Rattle.cedar_evaluator_restricted_exprs.specs.declared.restricted.RestrictedExpr.{RestrictedExpr}
use Rattle.cedar_evaluator_contexts.specs.declared.evaluator.RestrictedEvaluator.{RestrictedEvaluator}
use Rattle.cedar_evaluator_contexts.specs.declared.into_iter.IntoIter.{IntoIter}

-- the table
abbrev pub table_asked : {T : Type 0} → RestrictedEvaluator T → T
table_asked e = e.table.now

-- names with their restricted expressions, and those that are left to an iterator
abbrev pub pairs_in : List (RcStr Global × RestrictedExpr) → List (Text × Tree)
pairs_in ps = map restricted_pair ps

abbrev pub pairs_left : IntoIter → List (Text × Tree)
pairs_left i = map restricted_pair (into_iter_items i.pairs)
