use Rattle.cedar_schema_model.proofs.Decls.Store.{stores_hold}
use Rattle.cedar_schema_model.proofs.Decls.Environments.{ancestors_declared, entities_are_actions, actions_conform}
use Rattle.cedar_schema_model.proofs.decl_laws.action_entities_are_the_actions.Goals as goal

pub returns-clause-ancestors : goal.returns-clause-ancestors
returns-clause-ancestors c = ancestors_declared

pub returns-clause-those : goal.returns-clause-those
returns-clause-those c = entities_are_actions

pub returns-clause-conform : goal.returns-clause-conform
returns-clause-conform c = actions_conform

pub returns-clause-stores : goal.returns-clause-stores
returns-clause-stores c = stores_hold
