-- The scope rules: what a policy names anywhere, also where typing doesn't reach, is declared.
-- Rule: the scope rules (docs/RULES.md).
use Rattle.std.specs.Prelude.{◌≡◌, ◌||◌, List, ◌++◌, map, Contains, Bool, true, not, Option, Some, None, option_to_list}
use Rattle.std.specs.Option.{option_map_or}
use Rattle.std.specs.List.{list_all, list_any, filter_map}
use Rattle.std.proofs.Common.{◌⊎◌}
use Rattle.std.specs.Str.{bytes_eq}
use Rattle.cedar_expr_model.specs.Name.{Text, Name, name_eq}
use Rattle.cedar_expr_model.specs.Uid.{Uid}
use Rattle.cedar_expr_model.specs.Value.{entity}
use Rattle.cedar_expr_model.specs.Tree.{Tree, lit, is_type}
use Rattle.cedar_expr_model.specs.Parts.{subexpressions, uid_here}
use Rattle.cedar_store_model.specs.Policy.{Policy, condition}
use Rattle.cedar_schema_model.specs.Schema.{Schema, EntityKind, enumerated, type_named, declares_type, declares_action}
use Rattle.cedar_schema_model.specs.Descent.{action_uids}

-- the entity type that an expression asks for by itself
abbrev pub kind_here : Tree → Option Name
kind_here (is_type e n) = Some n
kind_here t = None

-- the uids that a policy names: in its scope, in its body, and as the values of its slots
abbrev pub policy_uids : Policy → List Uid
policy_uids p = filter_map uid_here (subexpressions (condition p)) ++ (option_to_list p.bindings.principal ++ option_to_list p.bindings.resource)

-- the entity types that a policy names: those of its uids and of its `is` tests
abbrev pub policy_kinds : Policy → List Name
policy_kinds p = map (λ u. u.kind) (policy_uids p) ++ filter_map kind_here (subexpressions (condition p))

-- the type of some declared action
abbrev pub is_action_type : Schema → Name → Bool
is_action_type s n = list_any (λ u. name_eq n u.kind) (action_uids s)

-- an entity type is declared, or is that of a declared action
abbrev pub is_known_type : Schema → Name → Bool
is_known_type s n = declares_type s n || is_action_type s n

-- a uid of an action's type is a declared action
abbrev pub is_no_unknown_action : Schema → Uid → Bool
is_no_unknown_action s u = not (is_action_type s u.kind) || declares_action s u

abbrev pub has_id : EntityKind → Text → Bool
has_id (enumerated ids) id = list_any (bytes_eq id) ids
has_id k id = true

-- a uid of an enumerated type is a declared member of it
abbrev pub is_no_unknown_member : Schema → Uid → Bool
is_no_unknown_member s u = option_map_or (λ t. has_id t.kind u.id) (type_named s u.kind) true

-- The policy names the uid: it stands in the scope or the body, or a slot is bound to it.
abbrev pub NamesUid : Policy → Uid → Type 0
NamesUid p u = Contains (subexpressions (condition p)) (lit (entity u)) ⊎ ((p.bindings.principal ≡ Some u) ⊎ (p.bindings.resource ≡ Some u))

-- The policy names the entity type: a uid that it names has it, or an `is` test in it asks for it.
abbrev pub NamesType : Policy → Name → Type 0
NamesType p n = ((u : Uid) × NamesUid p u × (n ≡ u.kind)) ⊎ ((e : Tree) × Contains (subexpressions (condition p)) (is_type e n))

-- The three scope rules.
abbrev pub NamesKnownTypes : Schema → Policy → Type 0
NamesKnownTypes s p = (n : Name) → NamesType p n → is_known_type s n ≡ true

abbrev pub NamesKnownActions : Schema → Policy → Type 0
NamesKnownActions s p = (u : Uid) → NamesUid p u → is_no_unknown_action s u ≡ true

abbrev pub NamesKnownMembers : Schema → Policy → Type 0
NamesKnownMembers s p = (u : Uid) → NamesUid p u → is_no_unknown_member s u ≡ true

-- whether the policy keeps each of the scope rules
abbrev pub names_known_types : Schema → Policy → Bool
names_known_types s p = list_all (is_known_type s) (policy_kinds p)

abbrev pub names_known_actions : Schema → Policy → Bool
names_known_actions s p = list_all (is_no_unknown_action s) (policy_uids p)

abbrev pub names_known_members : Schema → Policy → Bool
names_known_members s p = list_all (is_no_unknown_member s) (policy_uids p)
