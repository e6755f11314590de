use Rattle.cedar_schema_model.proofs.Types.Subtypes.{below_weaker}
use Rattle.cedar_schema_model.proofs.Types.Alike.{strict_exactly}
use Rattle.cedar_schema_model.proofs.type_laws.strict_subtypes_are_permissive.Goals as goal

pub returns-clause-permissively : goal.returns-clause-permissively
returns-clause-permissively c = λ x y h. below_weaker y x h

pub returns-clause-exactly : goal.returns-clause-exactly
returns-clause-exactly c = strict_exactly
