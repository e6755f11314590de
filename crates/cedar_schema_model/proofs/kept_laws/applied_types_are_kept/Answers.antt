use Rattle.cedar_schema_model.proofs.Applying.{actions_for_kept, principals_kept, resources_kept}
use Rattle.cedar_schema_model.proofs.kept_laws.applied_types_are_kept.Goals as goal

pub returns-clause-actions : goal.returns-clause-actions
returns-clause-actions c = actions_for_kept

pub returns-clause-principals : goal.returns-clause-principals
returns-clause-principals c = principals_kept

pub returns-clause-resources : goal.returns-clause-resources
returns-clause-resources c = resources_kept
