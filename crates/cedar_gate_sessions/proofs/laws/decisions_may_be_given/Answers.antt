use Rattle.cedar_gate_model.proofs.Runs.InPart.{may_be_given}
use Rattle.cedar_gate_sessions.proofs.laws.decisions_may_be_given.Goals as goal

pub returns : goal.returns
returns c = may_be_given c.decisions_are_the_answers.ensures.forced c.decisions_are_the_answers.ensures.evaluated
