use Rattle.cedar_schema_model.proofs.Types.Values.{supertypes_keep, never_empty}
use Rattle.cedar_schema_model.proofs.type_laws.supertypes_keep_values.Goals as goal

pub returns-clause-kept : goal.returns-clause-kept
returns-clause-kept c = supertypes_keep

pub returns-clause-none : goal.returns-clause-none
returns-clause-none c = never_empty
