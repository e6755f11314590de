use Rattle.cedar_gate_model.proofs.Runs.Moments.{answered_runs_are_legal}
use Rattle.cedar_gate_model.proofs.moment_laws.answered_runs_are_legal.Goals as goal

pub returns : goal.returns
returns c = answered_runs_are_legal
