use Rattle.cedar_schema_model.proofs.Contexts.{becomes}
use Rattle.cedar_schema_model.proofs.building_laws.contexts_become_records.Goals as goal

pub returns : goal.returns
returns c = becomes
