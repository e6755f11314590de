use Rattle.cedar_schema_model.proofs.Types.Values.{value_decided, sets_by_members}
use Rattle.cedar_schema_model.proofs.type_laws.has_type_is_decided.Goals as goal

pub returns-clause-decides : goal.returns-clause-decides
returns-clause-decides c = value_decided

pub returns-clause-sets : goal.returns-clause-sets
returns-clause-sets c = sets_by_members
