use Rattle.cedar_schema_model.proofs.Types.Subtypes.{below_same, below_on, below_both}
use Rattle.cedar_schema_model.proofs.type_laws.subtypes_are_ordered.Goals as goal

pub returns-clause-itself : goal.returns-clause-itself
returns-clause-itself c = below_same

pub returns-clause-on : goal.returns-clause-on
returns-clause-on c = λ m x y z h k. below_on m z x y h k

pub returns-clause-both : goal.returns-clause-both
returns-clause-both c = below_both
