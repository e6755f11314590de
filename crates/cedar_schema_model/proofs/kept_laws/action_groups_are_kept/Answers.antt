use Rattle.cedar_schema_model.proofs.Above.{groups_kept}
use Rattle.cedar_schema_model.proofs.kept_laws.action_groups_are_kept.Goals as goal

pub returns : goal.returns
returns c = groups_kept
