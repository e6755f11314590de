use Rattle.std.proofs.Common.{ap, rules}
use Rattle.cedar_expr_trees.specs.Trees.{tree_of}
use Rattle.cedar_evaluator_model.specs.Scope.{limit}
use Rattle.cedar_evaluator_model.specs.Steps.{best}
use Rattle.cedar_evaluator_core.proofs.rebuilt.given_up.Goals as goal

pub returns-in_ok-clone : goal.returns-in_ok-clone
returns-in_ok-clone c = λ l h. let left = h limit (search rules) in let same = ap (best (tree_of {T = Unit} c.args.e.now)) left in search rules
