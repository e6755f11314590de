use Rattle.cedar_expr_trees.specs.Trees.{tree_of}
use Rattle.cedar_expr_functions.specs.Tables.{table_of}
use Rattle.cedar_expr_functions.proofs.Wrong.{valid_then}
use Rattle.cedar_expr_functions.proofs.check.ExprCheckExpr.try_validate.Goals as goal

pub returns-clause-valid : goal.returns-clause-valid
returns-clause-valid g c = λ answers. valid_then c.check_calls.result (table_of c.args.table.now answers) (tree_of c.args.self.now) c.check_calls.ensures.none
