use Rattle.cedar_schema_model.proofs.Environs.{environments_kept}
use Rattle.cedar_schema_model.proofs.kept_laws.environments_are_kept.Goals as goal

pub returns : goal.returns
returns c = environments_kept
