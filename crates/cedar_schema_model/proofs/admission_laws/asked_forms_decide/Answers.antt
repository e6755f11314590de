use Rattle.cedar_schema_model.proofs.Asked.{asked_decides, named_lacks}
use Rattle.cedar_schema_model.proofs.admission_laws.asked_forms_decide.Goals as goal

pub returns-clause-decides : goal.returns-clause-decides
returns-clause-decides c = asked_decides

pub returns-clause-named : goal.returns-clause-named
returns-clause-named c = named_lacks
