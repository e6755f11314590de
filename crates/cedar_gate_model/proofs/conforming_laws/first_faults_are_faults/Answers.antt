use Rattle.cedar_gate_model.proofs.First.{first_is_fault, none_is_faultless}
use Rattle.cedar_gate_model.proofs.conforming_laws.first_faults_are_faults.Goals as goal

pub returns-clause-there : goal.returns-clause-there
returns-clause-there c = first_is_fault

pub returns-clause-none : goal.returns-clause-none
returns-clause-none c = none_is_faultless
