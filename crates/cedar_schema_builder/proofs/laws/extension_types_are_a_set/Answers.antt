use Rattle.cedar_schema_builder.proofs.Extending.{only_a_set}
use Rattle.cedar_schema_builder.proofs.laws.extension_types_are_a_set.Goals as goal

pub returns : goal.returns
returns c = only_a_set
