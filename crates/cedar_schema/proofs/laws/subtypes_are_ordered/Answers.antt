use Rattle.cedar_schema_model.proofs.Types.Subtypes.{below_same, below_on, below_both}
use Rattle.cedar_schema_types.specs.Types.{type_of}
use Rattle.cedar_schema_joins.specs.Modes.{mode_of}
use Rattle.cedar_schema.proofs.laws.subtypes_are_ordered.Goals as goal

pub returns-clause-itself : goal.returns-clause-itself
returns-clause-itself c = λ m a. below_same (mode_of m) (type_of a)

pub returns-clause-on : goal.returns-clause-on
returns-clause-on c = λ m x y z h k. below_on (mode_of m) (type_of z) (type_of x) (type_of y) h k

pub returns-clause-both : goal.returns-clause-both
returns-clause-both c = λ m a b. below_both (mode_of m) (type_of a) (type_of b)
