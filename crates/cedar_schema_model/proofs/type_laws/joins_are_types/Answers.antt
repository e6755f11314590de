use Rattle.cedar_schema_model.proofs.Types.Reduction.{formed_join, free_join}
use Rattle.cedar_schema_model.proofs.type_laws.joins_are_types.Goals as goal

pub returns-clause-formed : goal.returns-clause-formed
returns-clause-formed c = formed_join

pub returns-clause-free : goal.returns-clause-free
returns-clause-free c = free_join
