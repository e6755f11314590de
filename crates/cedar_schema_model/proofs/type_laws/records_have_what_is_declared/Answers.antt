use Rattle.cedar_schema_model.proofs.Types.Known.{record_has, record_may_have, looked_up_may}
use Rattle.cedar_schema_model.proofs.type_laws.records_have_what_is_declared.Goals as goal

pub returns-clause-has : goal.returns-clause-has
returns-clause-has c = record_has

pub returns-clause-may : goal.returns-clause-may
returns-clause-may c = record_may_have

pub returns-clause-known : goal.returns-clause-known
returns-clause-known c = looked_up_may
