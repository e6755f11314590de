-- What one entity type, one uid and one expression keep of the scope rules, and what a policy does.
-- Rule: the scope rules (docs/RULES.md).
use Rattle.std.specs.Prelude.{Bool, true}
use Rattle.cedar_expr_model.specs.Name.{Name}
use Rattle.cedar_expr_model.specs.Uid.{Uid}
use Rattle.cedar_expr_model.specs.Value.{Literal, entity}
use Rattle.cedar_expr_model.specs.Tree.{Tree, lit, is_type}
use Rattle.cedar_store_model.specs.Policy.{Policy}
use Rattle.cedar_schema_model.specs.Schema.{Schema}
use Rattle.cedar_typechecker_model.specs.ScopeRules.{is_known_type, is_no_unknown_action, is_no_unknown_member, names_known_types, names_known_actions, names_known_members}
use Rattle.cedar_gate_rules.specs.declared.rules.ScopeRule.{ScopeRule}
use Rattle.cedar_gate_rules.specs.declared.rules.ScopeRule.TheVariants.{KnownTypes, KnownActions, KnownMembers}

-- an entity type that is asked for, and a uid
abbrev pub keeps_type : Schema → ScopeRule → Name → Bool
keeps_type s KnownTypes n = is_known_type s n
keeps_type s KnownActions n = true
keeps_type s KnownMembers n = true

abbrev pub keeps_uid : Schema → ScopeRule → Uid → Bool
keeps_uid s KnownTypes u = is_known_type s u.kind
keeps_uid s KnownActions u = is_no_unknown_action s u
keeps_uid s KnownMembers u = is_no_unknown_member s u

-- an expression by itself, by a test of uids and one of entity types
abbrev pub keeps_literal : (Uid → Bool) → Literal → Bool
keeps_literal f (entity u) = f u
keeps_literal f p = true

abbrev pub keeps_with : (Uid → Bool) → (Name → Bool) → Tree → Bool
keeps_with f g (lit p) = keeps_literal f p
keeps_with f g (is_type e n) = g n
keeps_with f g t = true

abbrev pub keeps_here : Schema → ScopeRule → Tree → Bool
keeps_here s r = keeps_with (keeps_uid s r) (keeps_type s r)

-- the policy keeps the rule
abbrev pub names_known : ScopeRule → Schema → Policy → Bool
names_known KnownTypes = names_known_types
names_known KnownActions = names_known_actions
names_known KnownMembers = names_known_members
