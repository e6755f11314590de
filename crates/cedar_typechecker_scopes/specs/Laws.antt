-- The scope passes report exactly what breaks the scope rules.
-- Rule: the scope rules (docs/RULES.md).
use Rattle.std.specs.Prelude.{◌≡◌, ◌↔◌, List, [], ◌++◌}
use Rattle.std.specs.List.{flat_map}
use Rattle.std.specs.Option.{option_map_or}
use Rattle.cedar_store_model.specs.Policy.{Policy}
use Rattle.cedar_schema_model.specs.Schema.{Schema}
use Rattle.cedar_typechecker_model.specs.ScopeRules.{NamesKnownTypes, NamesKnownActions, NamesKnownMembers}
use Rattle.cedar_store_parts.specs.Views.{Wrong}
use Rattle.cedar_typechecker_scopes.specs.Faults.{ScopeRule, known_types, known_actions, known_members, wrong_uid, wrong_within, wrong_bound}

-- what is wrong with a policy by one rule: in its scope and body, and with what its slots are bound to
abbrev pub wrong_by_rule : Schema → ScopeRule → Policy → List Wrong
wrong_by_rule s r p = wrong_within s r p ++ (option_map_or (wrong_uid s r) p.bindings.principal [] ++ option_map_or (wrong_uid s r) p.bindings.resource [])

-- nothing is wrong by a rule exactly where the policy keeps it
abbrev pub TypesAreChecked : Type 0
TypesAreChecked = (s : Schema) (p : Policy) → (wrong_by_rule s known_types p ≡ []) ↔ NamesKnownTypes s p

abbrev pub ActionsAreChecked : Type 0
ActionsAreChecked = (s : Schema) (p : Policy) → (wrong_by_rule s known_actions p ≡ []) ↔ NamesKnownActions s p

abbrev pub MembersAreChecked : Type 0
MembersAreChecked = (s : Schema) (p : Policy) → (wrong_by_rule s known_members p ≡ []) ↔ NamesKnownMembers s p

-- the three passes and that of the slots find nothing exactly where the policy keeps all three
abbrev pub all_wrong : Schema → Policy → List Wrong
all_wrong s p = wrong_within s known_types p ++ (wrong_within s known_actions p ++ (wrong_within s known_members p ++ wrong_bound s p.bindings))

abbrev pub PassesAreExact : Type 0
PassesAreExact = (s : Schema) (p : Policy) → (all_wrong s p ≡ []) ↔ (NamesKnownTypes s p × (NamesKnownActions s p × NamesKnownMembers s p))
