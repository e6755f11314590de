use Rattle.cedar_gate_model.proofs.Gate.Computed.{completed, of_type, of_other_type, of_other_uid, not_conforming_there}
use Rattle.cedar_gate_model.proofs.worked.worked_completions.Goals as goal

pub returns-clause-completed : goal.returns-clause-completed
returns-clause-completed c = completed

pub returns-clause-of_type : goal.returns-clause-of_type
returns-clause-of_type c = of_type

pub returns-clause-of_other_type : goal.returns-clause-of_other_type
returns-clause-of_other_type c = of_other_type

pub returns-clause-of_other_uid : goal.returns-clause-of_other_uid
returns-clause-of_other_uid c = of_other_uid

pub returns-clause-not_conforming : goal.returns-clause-not_conforming
returns-clause-not_conforming c = not_conforming_there
