use Rattle.cedar_schema_model.proofs.Found.{types_declared, actions_declared, types_found, actions_found}
use Rattle.cedar_schema_model.proofs.kept_laws.declarations_are_kept.Goals as goal

pub returns-clause-types : goal.returns-clause-types
returns-clause-types c = types_declared

pub returns-clause-actions : goal.returns-clause-actions
returns-clause-actions c = actions_declared

pub returns-clause-found_types : goal.returns-clause-found_types
returns-clause-found_types c = types_found

pub returns-clause-found_actions : goal.returns-clause-found_actions
returns-clause-found_actions c = actions_found
