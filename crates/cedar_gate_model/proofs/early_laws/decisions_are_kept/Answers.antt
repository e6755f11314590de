use Rattle.cedar_gate_model.proofs.Runs.Early.{decisions_kept}
use Rattle.cedar_gate_model.proofs.early_laws.decisions_are_kept.Goals as goal

pub returns : goal.returns
returns c = decisions_kept
