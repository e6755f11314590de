use Rattle.std.proofs.Common.{refl, map}
use Rattle.cedar_schema_model.proofs.Types.Reduction.{reduction_of_members}
use Rattle.cedar_schema_types.specs.Types.{type_of}
use Rattle.cedar_schema_joins.specs.Modes.{mode_of}
use Rattle.cedar_schema.proofs.laws.reductions_are_of_members.Goals as goal

pub returns-clause-none : goal.returns-clause-none
returns-clause-none c = λ m. refl

pub returns-clause-members : goal.returns-clause-members
returns-clause-members c = λ m ts us. reduction_of_members (mode_of m) (map type_of ts) (map type_of us)
