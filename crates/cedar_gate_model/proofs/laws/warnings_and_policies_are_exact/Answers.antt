use Rattle.cedar_gate_model.proofs.Gate.Accepting.{warned_are_impossible, given_are_relevant, impossible_is_irrelevant}
use Rattle.cedar_gate_model.proofs.laws.warnings_and_policies_are_exact.Goals as goal

pub returns-clause-warned : goal.returns-clause-warned
returns-clause-warned c = warned_are_impossible

pub returns-clause-given : goal.returns-clause-given
returns-clause-given c = given_are_relevant

pub returns-clause-nowhere : goal.returns-clause-nowhere
returns-clause-nowhere c = impossible_is_irrelevant
