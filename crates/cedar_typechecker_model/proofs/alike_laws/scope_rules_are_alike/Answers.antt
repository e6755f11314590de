use Rattle.cedar_typechecker_model.proofs.Alike.Schemas.{same_known_types, same_known_actions, same_known_members}
use Rattle.cedar_typechecker_model.proofs.alike_laws.scope_rules_are_alike.Goals as goal

pub returns-clause-types : goal.returns-clause-types
returns-clause-types c = same_known_types

pub returns-clause-actions : goal.returns-clause-actions
returns-clause-actions c = same_known_actions

pub returns-clause-members : goal.returns-clause-members
returns-clause-members c = same_known_members
