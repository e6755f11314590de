use Rattle.cedar_store_parts.proofs.Compared.{scopes_decide, actions_decide}
use Rattle.cedar_store_parts.proofs.laws.scopes_are_compared.Goals as goal

pub returns-clause-either : goal.returns-clause-either
returns-clause-either c = scopes_decide

pub returns-clause-principal : goal.returns-clause-principal
returns-clause-principal c = λ a b. scopes_decide a.constraint b.constraint

pub returns-clause-resource : goal.returns-clause-resource
returns-clause-resource c = λ a b. scopes_decide a.constraint b.constraint

pub returns-clause-action : goal.returns-clause-action
returns-clause-action c = actions_decide
