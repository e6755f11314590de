use Rattle.std.proofs.Common.{false}
use Rattle.cedar_expr_model.specs.Builder.{disjunction}
use Rattle.cedar_evaluator_core.proofs.Nodes.{right_known}
use Rattle.cedar_evaluator_core.proofs.after.or_after.Goals as goal

pub returns-in-Some : goal.returns-in-Some
returns-in-Some c = λ l h. right_known disjunction false c.in-Some.b l c.settled.result (c.known_truth.ensures c.in-Some.b c.in-Some.is l h) c.settled.ensures
