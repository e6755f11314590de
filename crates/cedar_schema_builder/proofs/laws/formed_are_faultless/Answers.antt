use Rattle.cedar_schema_builder.proofs.FormLaws.{none_at_fault}
use Rattle.cedar_schema_builder.proofs.laws.formed_are_faultless.Goals as goal

pub returns : goal.returns
returns c = none_at_fault
