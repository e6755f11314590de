use Rattle.cedar_schema_model.proofs.External.{elsewhere_kept}
use Rattle.cedar_schema_model.proofs.Faults.{external_is_fault}
use Rattle.cedar_schema_model.proofs.kept_laws.external_declarations_are_kept.Goals as goal

pub returns-clause-kept : goal.returns-clause-kept
returns-clause-kept c = elsewhere_kept

pub returns-clause-fault : goal.returns-clause-fault
returns-clause-fault c = external_is_fault
