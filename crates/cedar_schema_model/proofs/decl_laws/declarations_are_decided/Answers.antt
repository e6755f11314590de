use Rattle.cedar_schema_model.proofs.Decls.Faults.{schema_fault-Decides, well_formed-Decides, no_schema_fault, where_no_schema_fault}
use Rattle.cedar_schema_model.proofs.decl_laws.declarations_are_decided.Goals as goal

pub returns-clause-faults : goal.returns-clause-faults
returns-clause-faults c = schema_fault-Decides

pub returns-clause-well_formed : goal.returns-clause-well_formed
returns-clause-well_formed c = well_formed-Decides

pub returns-clause-faultless : goal.returns-clause-faultless
returns-clause-faultless c = λ x d. (no_schema_fault x d, where_no_schema_fault x d)
