-- The causes that are asked before typing.
-- Rule: the acceptance rules (docs/RULES.md).
use Rattle.std.specs.Prelude.{◌&&◌, Bool, List, [], ◌∷◌}
use Rattle.std.specs.List.{list_all}
use Rattle.cedar_schema_model.specs.WellFormed.{well_formed}
use Rattle.cedar_gate_model.specs.Acceptance.{Submission, Cause, external, repeated_policy, unlinked_slot, slot_outside_scope, unknown_in_policy, nests_too_deep, unknown_entity_type, unknown_action, no_member, ill_typed, reaches_too_far, extension_types, is_clear_of}

-- those of policies that ask no schema, those of the scope rules, and those of typing
abbrev pub plain_causes : List Cause
plain_causes = repeated_policy ∷ unlinked_slot ∷ slot_outside_scope ∷ unknown_in_policy ∷ nests_too_deep ∷ []

abbrev pub scope_causes : List Cause
scope_causes = unknown_entity_type ∷ unknown_action ∷ no_member ∷ []

abbrev pub typing_causes : List Cause
typing_causes = ill_typed ∷ reaches_too_far ∷ []

-- the submission has none of these faults
abbrev pub is_clear_of_all : List Cause → Submission → Bool
is_clear_of_all cs s = list_all (λ c. is_clear_of c s) cs

-- the declarations are well-formed and none is external
abbrev pub has_declarations : Submission → Bool
has_declarations s = well_formed (extension_types s.table) s.declarations && is_clear_of external s

-- the submission has none of the faults that are asked before typing
abbrev pub admits_untyped : Submission → Bool
admits_untyped s = has_declarations s && (is_clear_of_all plain_causes s && is_clear_of_all scope_causes s)
