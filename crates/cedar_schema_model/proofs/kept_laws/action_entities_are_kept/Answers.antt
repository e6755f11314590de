use Rattle.cedar_schema_model.proofs.Entities.{entities_kept, all_entities_kept}
use Rattle.cedar_schema_model.proofs.kept_laws.action_entities_are_kept.Goals as goal

pub returns-clause-kept : goal.returns-clause-kept
returns-clause-kept c = entities_kept

pub returns-clause-all : goal.returns-clause-all
returns-clause-all c = all_entities_kept
