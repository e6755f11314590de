use Rattle.cedar_schema_model.proofs.Above.{ancestors_above}
use Rattle.cedar_schema_model.proofs.kept_laws.ancestors_are_above.Goals as goal

pub returns : goal.returns
returns c = ancestors_above
