use Rattle.cedar_schema_model.proofs.Types.Values.{disjoint_apart}
use Rattle.cedar_schema_model.proofs.type_laws.disjoint_types_share_no_value.Goals as goal

pub returns : goal.returns
returns c = disjoint_apart
