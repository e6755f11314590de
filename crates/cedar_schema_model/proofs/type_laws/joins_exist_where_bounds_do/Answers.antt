use Rattle.cedar_schema_model.proofs.Types.JoinLeast.{join_exists}
use Rattle.cedar_schema_model.proofs.Types.Reduction.{exists_exactly}
use Rattle.cedar_schema_model.proofs.type_laws.joins_exist_where_bounds_do.Goals as goal

pub returns-clause-where_bounded : goal.returns-clause-where_bounded
returns-clause-where_bounded c = join_exists

pub returns-clause-exactly : goal.returns-clause-exactly
returns-clause-exactly c = exists_exactly
