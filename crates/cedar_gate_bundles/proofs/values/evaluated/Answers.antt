use Rattle.cedar_expr_trees.specs.Trees.{tree_of}
use Rattle.cedar_evaluator_model.specs.Functions.{left_of_restricted}
use Rattle.cedar_gate_bundles.proofs.Evaluated.{stops}
use Rattle.cedar_gate_bundles.proofs.values.evaluated.Goals as goal

pub returns-in-Err-Stopped-clause-stopped : goal.returns-in-Err-Stopped-clause-stopped
returns-in-Err-Stopped-clause-stopped g c = λ q x a. stops (left_of_restricted x (tree_of c.args.e.now)) (c.in-Err-Stopped.ensures x a c.in-Err-Stopped.field-0-is)
