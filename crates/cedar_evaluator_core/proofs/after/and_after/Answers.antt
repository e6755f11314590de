use Rattle.std.proofs.Common.{true}
use Rattle.cedar_expr_model.specs.Builder.{conjunction}
use Rattle.cedar_evaluator_core.proofs.Nodes.{right_known}
use Rattle.cedar_evaluator_core.proofs.after.and_after.Goals as goal

pub returns-in-Some : goal.returns-in-Some
returns-in-Some c = λ l h. right_known conjunction true c.in-Some.b l c.settled.result (c.known_truth.ensures c.in-Some.b c.in-Some.is l h) c.settled.ensures
