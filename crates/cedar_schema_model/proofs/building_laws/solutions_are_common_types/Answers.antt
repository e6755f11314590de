use Rattle.cedar_schema_model.proofs.Solutions.{solutions}
use Rattle.cedar_schema_model.proofs.building_laws.solutions_are_common_types.Goals as goal

pub returns : goal.returns
returns c = solutions
