use Rattle.cedar_schema_model.proofs.Decls.Conforming.{request_fault-Decides, request_conforms-Decides, no_request_fault, where_no_request_fault}
use Rattle.cedar_schema_model.proofs.Decls.Direct.{requests_read}
use Rattle.cedar_schema_model.proofs.decl_laws.requests_are_decided.Goals as goal

pub returns-clause-faults : goal.returns-clause-faults
returns-clause-faults c = request_fault-Decides

pub returns-clause-conforming : goal.returns-clause-conforming
returns-clause-conforming c = request_conforms-Decides

pub returns-clause-directly : goal.returns-clause-directly
returns-clause-directly c = requests_read

pub returns-clause-faultless : goal.returns-clause-faultless
returns-clause-faultless c = λ s r. (no_request_fault s r, where_no_request_fault s r)
