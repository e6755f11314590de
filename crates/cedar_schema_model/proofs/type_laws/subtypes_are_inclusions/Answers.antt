use Rattle.cedar_schema_model.proofs.Types.Inclusion.{subtypes_include}
use Rattle.cedar_schema_model.proofs.type_laws.subtypes_are_inclusions.Goals as goal

pub returns : goal.returns
returns c = subtypes_include
