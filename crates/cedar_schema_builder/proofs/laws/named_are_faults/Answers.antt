use Rattle.cedar_schema_builder.proofs.Handing.{named_told}
use Rattle.cedar_schema_builder.proofs.laws.named_are_faults.Goals as goal

pub returns : goal.returns
returns c = named_told
