use Rattle.cedar_gate_model.proofs.Runs.InPart.{runs_may_be}
use Rattle.cedar_gate_model.proofs.run_laws.runs_may_be.Goals as goal

pub returns : goal.returns
returns c = runs_may_be c.decisions_are_the_answers.ensures.forced c.decisions_are_the_answers.ensures.evaluated
