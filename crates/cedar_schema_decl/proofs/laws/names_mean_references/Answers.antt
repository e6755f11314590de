use Rattle.cedar_schema_decl.proofs.Resolving.{names_mean}
use Rattle.cedar_schema_decl.proofs.laws.names_mean_references.Goals as goal

pub returns : goal.returns
returns c = names_mean
