use Rattle.cedar_gate_model.specs.Runs.{MayDecide}
use Rattle.cedar_gate_model.proofs.Gate.AlikeRuns.{runs_are_alike}
use Rattle.cedar_gate_model.proofs.laws.runs_are_alike.Goals as goal

pub returns : goal.returns
returns c = λ x ps. runs_are_alike (MayDecide x ps) x ps
