use Rattle.cedar_schema_model.proofs.Types.JoinSame.{strict_join_same}
use Rattle.cedar_schema_model.proofs.Types.Alike.{strict_join_exactly}
use Rattle.cedar_schema_model.proofs.type_laws.strict_joins_are_permissive.Goals as goal

pub returns-clause-permissively : goal.returns-clause-permissively
returns-clause-permissively c = strict_join_same

pub returns-clause-exactly : goal.returns-clause-exactly
returns-clause-exactly c = strict_join_exactly
