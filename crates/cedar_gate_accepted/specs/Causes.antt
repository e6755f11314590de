-- The faults by which the gate refuses a submission: which are there, and their numbers.
-- Rule: the acceptance rules; statuses and refusal numbers (docs/RULES.md).
use Rattle.std.specs.Prelude.{◌≡◌, ℕ, Bool, true, false, Option, Some, None, Result, IfErr}
use Rattle.cedar_expr_model.specs.Lists.{is_nil}
use Rattle.cedar_gate_model.specs.Acceptance.{Submission, schema, external, repeated_policy, unlinked_slot, slot_outside_scope, unknown_in_policy, nests_too_deep, unknown_entity_type, unknown_action, no_member, ill_typed, reaches_too_far, HasFault, has_schema}
use Rattle.cedar_gate_accepted.specs.Violations.{AreViolationsOf}
use Rattle.cedar_schema_builder.specs.Faults.{fault_told}
use Rattle.cedar_schema_builder.specs.declared.err.SchemaError.{SchemaError}
use Rattle.cedar_schema_builder.specs.declared.err.SchemaError.TheVariants as error
use Rattle.cedar_schema_model.specs.WellFormed.{SchemaFault}
use Rattle.cedar_gate_accepted.specs.declared.fault.GateFault.{GateFault}
use Rattle.cedar_gate_accepted.specs.declared.fault.GateFault.TheVariants.{OutOfMemory, Schema, External, RepeatedPolicy, UnlinkedSlot, SlotOutsideScope, UnknownInPolicy, Nesting, UnknownEntityType, UnknownAction, EnumMember, IllTyped, Level}

-- the number of a fault, 0 for memory
abbrev pub gate_fault_number : GateFault → ℕ
gate_fault_number OutOfMemory = 0
gate_fault_number (Schema e) = 1
gate_fault_number External = 2
gate_fault_number RepeatedPolicy = 3
gate_fault_number UnlinkedSlot = 4
gate_fault_number SlotOutsideScope = 5
gate_fault_number UnknownInPolicy = 6
gate_fault_number Nesting = 7
gate_fault_number UnknownEntityType = 8
gate_fault_number UnknownAction = 9
gate_fault_number EnumMember = 10
gate_fault_number IllTyped = 11
gate_fault_number (Level vs) = 12

-- whether a fault is out of memory
abbrev pub is_memory : GateFault → Bool
is_memory OutOfMemory = true
is_memory f = false

-- the fault as which an error of the declarations is handed on
abbrev pub fault_of_schema : SchemaError → GateFault
fault_of_schema error.OutOfMemory = OutOfMemory
fault_of_schema e = Schema e

-- The fault of the declarations, if one is reported, is there.
abbrev pub IsTold : Submission → Option SchemaFault → Type 0
IsTold s None = ⊥
IsTold s (Some f) = HasFault (schema f) s

-- The submission has the fault that is named: out of memory is a fault of its own, an error of the declarations reports what is wrong with
-- them, and where policies reach too far all their violations are reported, of which there is one at least.
abbrev pub IsRefusedFor : Submission → GateFault → Type 0
IsRefusedFor s OutOfMemory = Unit {0}
IsRefusedFor s (Schema e) = IsTold s (fault_told e)
IsRefusedFor s External = HasFault external s
IsRefusedFor s RepeatedPolicy = HasFault repeated_policy s
IsRefusedFor s UnlinkedSlot = HasFault unlinked_slot s
IsRefusedFor s SlotOutsideScope = HasFault slot_outside_scope s
IsRefusedFor s UnknownInPolicy = HasFault unknown_in_policy s
IsRefusedFor s Nesting = HasFault nests_too_deep s
IsRefusedFor s UnknownEntityType = HasFault unknown_entity_type s
IsRefusedFor s UnknownAction = HasFault unknown_action s
IsRefusedFor s EnumMember = HasFault no_member s
IsRefusedFor s IllTyped = HasFault ill_typed s
IsRefusedFor s (Level vs) = HasFault reaches_too_far s × AreViolationsOf s vs.items × (is_nil vs.items ≡ false)

-- Where its declarations are well-formed and none is external, the submission has the fault.
abbrev pub RefusesFor : {A : Type 0} → Submission → Result A GateFault → Type 0
RefusesFor s r = has_schema s ≡ true → IfErr r (IsRefusedFor s)
