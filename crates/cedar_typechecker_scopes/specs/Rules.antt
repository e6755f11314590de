-- The code's rules as the model's.
-- Rule: the scope rules (docs/RULES.md).
use Rattle.cedar_typechecker_scopes.specs.Faults as model
use Rattle.cedar_typechecker_scopes.specs.declared.uids.ScopeRule.{ScopeRule}
use Rattle.cedar_typechecker_scopes.specs.declared.uids.ScopeRule.TheVariants.{KnownTypes, KnownActions, KnownMembers}

abbrev pub rule_of : ScopeRule → model.ScopeRule
rule_of KnownTypes = model.known_types
rule_of KnownActions = model.known_actions
rule_of KnownMembers = model.known_members
