use Rattle.cedar_evaluator_model.proofs.Forced.{forbid_forces, permit_forces, no_permit_forces}
use Rattle.cedar_evaluator_model.proofs.laws.decisions_are_owed.Goals as goal

pub returns-clause-by_forbid : goal.returns-clause-by_forbid
returns-clause-by_forbid c = forbid_forces

pub returns-clause-by_permit : goal.returns-clause-by_permit
returns-clause-by_permit c = permit_forces

pub returns-clause-by_no_permit : goal.returns-clause-by_no_permit
returns-clause-by_no_permit c = no_permit_forces
