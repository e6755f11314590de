use Rattle.cedar_schema.proofs.EqualNames.{applied_decide}
use Rattle.cedar_schema.proofs.laws.applied_types_are_compared.Goals as goal

pub returns : goal.returns
returns c = applied_decide
