use Rattle.cedar_gate_model.proofs.Gate.Accepting.{admits-Decides, faults_exclude, refusal_has_fault, acceptance_reads}
use Rattle.cedar_gate_model.proofs.laws.acceptance_is_decided.Goals as goal

pub returns-clause-decides : goal.returns-clause-decides
returns-clause-decides c = admits-Decides

pub returns-clause-excludes : goal.returns-clause-excludes
returns-clause-excludes c = faults_exclude

pub returns-clause-named : goal.returns-clause-named
returns-clause-named c = refusal_has_fault

pub returns-clause-reads : goal.returns-clause-reads
returns-clause-reads c = acceptance_reads
