-- What the gate admits: the acceptance rules, each with the fault that breaks it.
-- Rule: the acceptance rules; impossible policies; statuses and refusal numbers (docs/RULES.md).
use Rattle.std.specs.Prelude.{◌≡◌, ◌&&◌, ◌||◌, ℕ, List, [], ◌∷◌, Contains, Bool, true, false, not, is_some, nat_le, option_to_list, is_none}
use Rattle.std.specs.List.{list_all, filter, flat_map}
use Rattle.std.specs.Str.{bytes_eq}
use Rattle.cedar_expr_model.specs.Name.{Text, Name}
use Rattle.cedar_expr_model.specs.Tree.{CoreType, extension_core, nesting}
use Rattle.cedar_expr_model.specs.Unknowns.{has_unknown}
use Rattle.cedar_expr_model.specs.Table.{Table}
use Rattle.cedar_store_model.specs.Policy.{Policy, binding_of, body_tree, condition, tree_uses, has_slot, all_slots}
use Rattle.cedar_store_model.specs.Answer.{ids}
use Rattle.cedar_schema_model.specs.Schema.{Schema}
use Rattle.cedar_schema_model.specs.Declarations.{Declarations}
use Rattle.cedar_schema_model.specs.WellFormed.{SchemaFault, unresolved_external, ill_forms, has_schema_fault, well_formed}
use Rattle.cedar_schema_model.specs.Resolved.{schema_of}
use Rattle.cedar_typechecker_model.specs.ScopeRules.{names_known_types, names_known_actions, names_known_members}
use Rattle.cedar_typechecker_model.specs.Verdicts.{RequestType, passes, impossible, irrelevant_for, policy_violations}
use Rattle.cedar_expr_model.specs.Lists.{is_nil}
use Rattle.cedar_expr_model.specs.Repeats.{repeated}

-- What is handed to the gate: declarations, policies, the functions, the level and the limit on nesting.
pub record Submission : Type 0 where
  pub declarations : Declarations
  pub policies : List Policy
  pub table : Table
  pub level : ℕ
  pub limit : ℕ

-- The faults of a submission.
pub data Cause : Type 0 where
  schema : SchemaFault → Cause
  external repeated_policy unlinked_slot slot_outside_scope unknown_in_policy nests_too_deep unknown_entity_type unknown_action no_member ill_typed reaches_too_far : Cause

abbrev pub extension_of : CoreType → List Name
extension_of (extension_core n) = n ∷ []
extension_of t = []

-- the extension types of a table: those whose values its functions give
abbrev pub extension_types : Table → List Name
extension_types x = flat_map (λ f. flat_map extension_of (option_to_list f.result)) x.functions

abbrev pub schema_in : Submission → Schema
schema_in s = schema_of s.declarations

-- each slot that the policy has is bound
abbrev pub is_linked : Policy → Bool
is_linked p = list_all (λ s. not (has_slot p s) || is_some (binding_of p.bindings s)) all_slots

-- no slot stands in the body
abbrev pub keeps_slots_in_scope : Policy → Bool
keeps_slots_in_scope p = list_all (λ s. not (tree_uses (body_tree p.body) s)) all_slots

-- Each rule: the number of its fault among the gate's refusals, and which submissions don't have the fault.
abbrev pub acceptance_rule : Cause → ℕ × (Submission → Bool)
acceptance_rule (schema f) = (1, λ s. not (has_schema_fault (extension_types s.table) s.declarations f))
acceptance_rule external = (2, λ s. not (has_schema_fault (extension_types s.table) s.declarations unresolved_external))
acceptance_rule repeated_policy = (3, λ s. is_none (repeated bytes_eq (ids s.policies)))
acceptance_rule unlinked_slot = (4, λ s. list_all is_linked s.policies)
acceptance_rule slot_outside_scope = (5, λ s. list_all keeps_slots_in_scope s.policies)
acceptance_rule unknown_in_policy = (6, λ s. list_all (λ p. not (has_unknown (condition p))) s.policies)
acceptance_rule nests_too_deep = (7, λ s. list_all (λ p. nat_le (nesting (condition p)) s.limit) s.policies)
acceptance_rule unknown_entity_type = (8, λ s. list_all (names_known_types (schema_in s)) s.policies)
acceptance_rule unknown_action = (9, λ s. list_all (names_known_actions (schema_in s)) s.policies)
acceptance_rule no_member = (10, λ s. list_all (names_known_members (schema_in s)) s.policies)
acceptance_rule ill_typed = (11, λ s. list_all (passes (schema_in s) s.table) s.policies)
acceptance_rule reaches_too_far = (12, λ s. list_all (λ p. is_nil (policy_violations s.level (schema_in s) s.table p)) s.policies)

abbrev pub number_of : Cause → ℕ
number_of c = (acceptance_rule c).0

abbrev pub is_clear_of : Cause → Submission → Bool
is_clear_of c s = (acceptance_rule c).1 s

-- whether the fault is one of policies against the schema: these have the last numbers
abbrev pub asks_schema : Cause → Bool
asks_schema c = nat_le 8 (number_of c)

-- the faults that the gate knows: of the schema those of ill-formed declarations
abbrev pub IsCause : Cause → Type 0
IsCause (schema f) = Contains ill_forms f
IsCause c = Unit {0}

-- The submission is accepted: it has none of the faults.
abbrev pub IsAccepted : Submission → Type 0
IsAccepted s = (c : Cause) → IsCause c → is_clear_of c s ≡ true

-- the declarations are well-formed, and none is external
abbrev pub has_schema : Submission → Bool
has_schema s = well_formed (extension_types s.table) s.declarations && is_clear_of external s

-- The fault is there. What policies lack against the schema is a fault only where there is a schema.
abbrev pub HasFault : Cause → Submission → Type 0
HasFault c s = IsCause c × (is_clear_of c s ≡ false) × (asks_schema c ≡ true → has_schema s ≡ true)

-- the ids of the impossible policies, in policy order
abbrev pub warnings_of : Submission → List Text
warnings_of s = ids (filter (impossible (schema_in s) s.table) s.policies)

-- the ids of the policies that aren't irrelevant for a request's types, in policy order
abbrev pub policies_for : Submission → RequestType → List Text
policies_for s r = ids (filter (λ p. not (irrelevant_for (schema_in s) s.table r p)) s.policies)
