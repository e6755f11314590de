use Rattle.cedar_gate_model.proofs.Gate.Transcripts.{decisions_are_final, one_decision}
use Rattle.cedar_gate_model.proofs.laws.given_decisions_are_final.Goals as goal

pub returns-clause-final_decisions : goal.returns-clause-final_decisions
returns-clause-final_decisions c = decisions_are_final

pub returns-clause-one : goal.returns-clause-one
returns-clause-one c = one_decision
