use Rattle.std.proofs.Common.{◌≡◌, map}
use Rattle.cedar_expr_model.specs.Lists.{first_found}
use Rattle.cedar_expr_trees.specs.Trees.{tree_of}
use Rattle.cedar_expr_trees.specs.Positions.{exprs_left}
use Rattle.cedar_expr_functions.specs.Tables.{functions_of}
use Rattle.cedar_expr_functions.specs.Calls.{wrong_call, first_wrong_call}
use Rattle.cedar_expr_functions.proofs.calls.check_calls.Given as goal

abbrev pub invariant-loop-e : goal.invariant-loop-e
invariant-loop-e g l = first_found (wrong_call (functions_of l.table)) (map tree_of (exprs_left l.e-iterator)) ≡ first_wrong_call (functions_of l.table) (tree_of l.expr)
