use Rattle.cedar_typechecker_model.proofs.Naming.{uids_are_named, types_are_named, known_types-Decides, known_actions-Decides, known_members-Decides}
use Rattle.cedar_typechecker_model.proofs.laws.scope_rules_are_decided.Goals as goal

pub returns-clause-uids : goal.returns-clause-uids
returns-clause-uids c = uids_are_named

pub returns-clause-kinds : goal.returns-clause-kinds
returns-clause-kinds c = types_are_named

pub returns-clause-types : goal.returns-clause-types
returns-clause-types c = known_types-Decides

pub returns-clause-actions : goal.returns-clause-actions
returns-clause-actions c = known_actions-Decides

pub returns-clause-members : goal.returns-clause-members
returns-clause-members c = known_members-Decides
