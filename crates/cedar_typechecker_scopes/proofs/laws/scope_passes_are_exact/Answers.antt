use Rattle.cedar_typechecker_scopes.proofs.Checked.{types_checked, actions_checked, members_checked, all_checked}
use Rattle.cedar_typechecker_scopes.proofs.laws.scope_passes_are_exact.Goals as goal

pub returns-clause-types : goal.returns-clause-types
returns-clause-types c = types_checked

pub returns-clause-actions : goal.returns-clause-actions
returns-clause-actions c = actions_checked

pub returns-clause-members : goal.returns-clause-members
returns-clause-members c = members_checked

pub returns-clause-all : goal.returns-clause-all
returns-clause-all c = all_checked
