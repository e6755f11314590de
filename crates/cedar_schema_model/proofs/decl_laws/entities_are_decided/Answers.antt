use Rattle.cedar_schema_model.proofs.Decls.Conforming.{entity_fault-Decides, entity_conforms-Decides, no_entity_fault, where_no_entity_fault}
use Rattle.cedar_schema_model.proofs.Decls.Direct.{entities_read}
use Rattle.cedar_schema_model.proofs.decl_laws.entities_are_decided.Goals as goal

pub returns-clause-faults : goal.returns-clause-faults
returns-clause-faults c = entity_fault-Decides

pub returns-clause-conforming : goal.returns-clause-conforming
returns-clause-conforming c = entity_conforms-Decides

pub returns-clause-directly : goal.returns-clause-directly
returns-clause-directly c = entities_read

pub returns-clause-faultless : goal.returns-clause-faultless
returns-clause-faultless c = λ s u e. (no_entity_fault s u e, where_no_entity_fault s u e)
