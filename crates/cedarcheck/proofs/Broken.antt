-- What is broken is a fault under its number.
use Rattle.std.proofs.Common.{◌≡◌, ℕ, List, true, false, Option, Some, None, refl, ap, ◌∙◌, subst}
use Rattle.std.specs.Prelude.{not}
use Rattle.std.specs.List.{list_all}
use Rattle.cedar_expr_model.specs.Lists.{is_nil}
use Rattle.cedar_expr_model.specs.Table.{Table}
use Rattle.cedar_gate_accepted.proofs.Kept.{all_alike}
use Rattle.cedar_gate_accepted.proofs.Refused.{plain_fault, schema_fault}
use Rattle.cedar_gate_accepted.specs.Causes.{IsTold, IsRefusedFor, gate_fault_number, is_memory}
use Rattle.cedar_gate_accepted.specs.Checked.{IsTypedBy}
use Rattle.cedar_gate_accepted.specs.Handed.{IsSeenBy}
use Rattle.cedar_gate_accepted.specs.declared.fault.GateFault.{GateFault}
use Rattle.cedar_gate_accepted.specs.declared.fault.GateFault.TheVariants as fault
use Rattle.cedar_gate_model.specs.Acceptance.{Submission, Cause, schema, external, repeated_policy, unlinked_slot, slot_outside_scope, unknown_in_policy, nests_too_deep, unknown_entity_type, unknown_action, no_member, ill_typed, reaches_too_far, HasFault, schema_in, has_schema, is_clear_of, number_of, extension_types}
use Rattle.cedar_schema_builder.specs.Faults.{fault_told}
use Rattle.cedar_schema_builder.specs.declared.err.SchemaError.{SchemaError}
use Rattle.cedar_schema_model.specs.Declarations.{Declarations}
use Rattle.cedar_schema_model.specs.Schema.{Schema}
use Rattle.cedar_schema_model.specs.Types.{strict}
use Rattle.cedar_schema_model.specs.WellFormed.{SchemaFault, has_schema_fault, unresolved_external}
use Rattle.cedar_store_model.specs.Policy.{Policy}
use Rattle.cedar_typechecker_model.specs.AlikeLaws.{PassingIsAlike, LevelsAreAlike}
use Rattle.cedar_typechecker_model.specs.Verdicts.{passes, policy_violations}
use Rattle.cedarcheck.specs.Faults.{HasNumber}

-- a fault of typing, and one of levels
module _ (t : Schema) (y : Table) (ps : List Policy) (n : ℕ) (s : Submission) (w : IsTypedBy t y ps n s) where
  pub as_seen_by : IsSeenBy t ps s
  as_seen_by = record { schema = w.schema; policies = w.policies }

  pub ill_typed_fault : PassingIsAlike → has_schema s ≡ true → list_all (passes t y) ps ≡ false → HasNumber s 11
  ill_typed_fault law k h =
      let same : is_clear_of ill_typed s ≡ list_all (passes t y) ps =
      ap (list_all (passes (schema_in s) s.table)) w.policies ∙ all_alike (passes (schema_in s) s.table) (passes t y) (law (schema_in s) t w.schema s.table y w.table strict) ps in
      (ill_typed, schema_fault s ill_typed tt k (same ∙ h), refl)

  pub far_fault : LevelsAreAlike → has_schema s ≡ true → list_all (λ p. is_nil (policy_violations n t y p)) ps ≡ false → HasNumber s 12
  far_fault law k h =
      let same : is_clear_of reaches_too_far s ≡ list_all (λ p. is_nil (policy_violations n t y p)) ps =
      (λ i. list_all (λ p. is_nil (policy_violations (w.level i) (schema_in s) s.table p)) (w.policies i))
      ∙ all_alike (λ p. is_nil (policy_violations n (schema_in s) s.table p)) (λ p. is_nil (policy_violations n t y p)) (λ p. law (schema_in s) t w.schema s.table y w.table strict n p) ps in
      (reaches_too_far, schema_fault s reaches_too_far tt k (same ∙ h), refl)

-- a fault of the declarations, and an external one
told_number : (s : Submission) (o : Option SchemaFault) → IsTold s o → HasNumber s 1
told_number s None h = absurd h
told_number s (Some f) h = (schema f, h, refl)

pub schema_number : (s : Submission) (f : GateFault) (e : SchemaError) → f ≡ fault.Schema e → IsRefusedFor s f → HasNumber s 1
schema_number s f e is h = told_number s (fault_told e) (subst (IsRefusedFor s) is h)

pub external_number : (s : Submission) (d : Declarations) → s.declarations ≡ d → not (has_schema_fault (extension_types s.table) d unresolved_external) ≡ false → HasNumber s 2
external_number s d e h =
    (external, plain_fault s external tt refl (ap (λ c. not (has_schema_fault (extension_types s.table) c unresolved_external)) e ∙ h), refl)

-- a fault by which the gate refuses
pub refused_number : (s : Submission) (f : GateFault) → IsRefusedFor s f → is_memory f ≡ false → HasNumber s (gate_fault_number f)
refused_number s fault.OutOfMemory h k = absurd (cc)
refused_number s (fault.Schema x) h k = told_number s (fault_told x) h
refused_number s fault.External h k = (external, h, refl)
refused_number s fault.RepeatedPolicy h k = (repeated_policy, h, refl)
refused_number s fault.UnlinkedSlot h k = (unlinked_slot, h, refl)
refused_number s fault.SlotOutsideScope h k = (slot_outside_scope, h, refl)
refused_number s fault.UnknownInPolicy h k = (unknown_in_policy, h, refl)
refused_number s fault.Nesting h k = (nests_too_deep, h, refl)
refused_number s fault.UnknownEntityType h k = (unknown_entity_type, h, refl)
refused_number s fault.UnknownAction h k = (unknown_action, h, refl)
refused_number s fault.EnumMember h k = (no_member, h, refl)
refused_number s fault.IllTyped h k = (ill_typed, h, refl)
refused_number s (fault.Level vs) h k = (reaches_too_far, h.0, refl)
