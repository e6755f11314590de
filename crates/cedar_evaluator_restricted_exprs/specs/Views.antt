-- What restricted expressions are in the model.
-- Rule: restricted expressions (docs/RULES.md).
use Rattle.std.specs.Prelude.{List, map, Option}
use Rattle.std.specs.Rc.{rc_str_bytes}
use Rattle.std.specs.Slice.Iter.{iter_rest}
use Rattle.std.specs.declared.alloc.Global.{Global}
use Rattle.std.specs.declared.rc.RcStr.{RcStr}
use Rattle.cedar_expr_names.specs.declared.loc.Loc.{Loc}
use Rattle.cedar_expr_model.specs.Name.{Text}
use Rattle.cedar_expr_model.specs.Tree.{Tree}
use Rattle.cedar_expr_trees.specs.Trees.{tree_of, place_of, named, field_trees}
use Rattle.cedar_evaluator_restricted_exprs.specs.declared.borrowed.BorrowedRestrictedExpr.{BorrowedRestrictedExpr}
use Rattle.cedar_evaluator_restricted_exprs.specs.declared.restricted.RestrictedExpr.{RestrictedExpr}
use Rattle.cedar_evaluator_restricted_exprs.specs.declared.parts.RestrictedElements.{RestrictedElements}
use Rattle.cedar_evaluator_restricted_exprs.specs.declared.parts.RestrictedPairs.{RestrictedPairs}

-- the tree of a restricted expression, and its place
abbrev pub restricted_of : RestrictedExpr → Tree
restricted_of r = tree_of r.expr

abbrev pub restricted_place : RestrictedExpr → Option Loc
restricted_place r = place_of r.expr

-- those of one that is borrowed
abbrev pub borrowed_of : BorrowedRestrictedExpr → Tree
borrowed_of r = tree_of r.expr.now

abbrev pub borrowed_place : BorrowedRestrictedExpr → Option Loc
borrowed_place r = place_of r.expr.now

-- what is left to the iterators
abbrev pub elements_left : RestrictedElements → List Tree
elements_left i = map tree_of (iter_rest i.exprs)

abbrev pub pairs_left : RestrictedPairs → List (Text × Tree)
pairs_left i = named (field_trees i.fields)

-- names with restricted expressions
abbrev pub restricted_pair : RcStr Global × RestrictedExpr → Text × Tree
restricted_pair p = (rc_str_bytes p.0, restricted_of p.1)
