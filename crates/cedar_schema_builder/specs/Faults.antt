-- The fault of declarations that an error reports, and its number.
-- Rule: well-formed declarations (docs/RULES.md).
use Rattle.std.specs.Prelude.{◌≡◌, ℕ, Option, Some, None}
use Rattle.std.specs.Option.{option_map_or}
use Rattle.cedar_schema_model.specs.WellFormed.{SchemaFault, schema_number, duplicate_entity_type, duplicate_common_type, duplicate_action, undeclared_type, undeclared_action, cycle_of_common_types, cycle_of_actions, action_as_entity_type, context_not_record, reserved_name, shadowing, unknown_extension_type}
use Rattle.cedar_schema_decl.specs.declared.err.ShadowingError.{ShadowingError}
use Rattle.cedar_schema_decl.specs.declared.err.ShadowingError.TheVariants as shade
use Rattle.cedar_schema_fragments.specs.declared.err.FragmentError.{FragmentError}
use Rattle.cedar_schema_fragments.specs.declared.err.FragmentError.TheVariants as fragments
use Rattle.cedar_schema_resolver.specs.declared.err.ResolveError.{ResolveError}
use Rattle.cedar_schema_resolver.specs.declared.err.ResolveError.TheVariants as resolve
use Rattle.cedar_schema_assembly.specs.declared.err.AssemblyError.{AssemblyError}
use Rattle.cedar_schema_assembly.specs.declared.err.AssemblyError.TheVariants as assembly
use Rattle.cedar_schema_builder.specs.declared.err.SchemaError.{SchemaError}
use Rattle.cedar_schema_builder.specs.declared.err.SchemaError.TheVariants.{OutOfMemory, DuplicateEntityType, DuplicateCommonType, DuplicateAction, TypeNotDefined, ActionNotDefined, CycleInCommonTypeReferences, CycleInActionHierarchy, ActionEntityTypeDeclared, ContextNotRecord, ReservedName, TypeShadowing, ActionShadowing, UnknownExtensionType}

-- the fault that an error reports. Out of memory reports none.
abbrev pub fault_told : SchemaError → Option SchemaFault
fault_told OutOfMemory = None
fault_told (DuplicateEntityType n) = Some duplicate_entity_type
fault_told (DuplicateCommonType n) = Some duplicate_common_type
fault_told (DuplicateAction u) = Some duplicate_action
fault_told (TypeNotDefined c) = Some undeclared_type
fault_told (ActionNotDefined c id) = Some undeclared_action
fault_told (CycleInCommonTypeReferences n) = Some cycle_of_common_types
fault_told (CycleInActionHierarchy u) = Some cycle_of_actions
fault_told (ActionEntityTypeDeclared n) = Some action_as_entity_type
fault_told (ContextNotRecord u) = Some context_not_record
fault_told (ReservedName e) = Some reserved_name
fault_told (TypeShadowing n) = Some shadowing
fault_told (ActionShadowing u) = Some shadowing
fault_told (UnknownExtensionType n) = Some unknown_extension_type

-- its number, 0 for memory
abbrev pub schema_error_number : SchemaError → ℕ
schema_error_number e = option_map_or schema_number (fault_told e) 0

-- the error of a step as one of the schema: of what shadows, of fragments, of common types and written types, and of assembled
-- declarations
abbrev pub of_shadowing : ShadowingError → SchemaError
of_shadowing shade.OutOfMemory = OutOfMemory
of_shadowing (shade.TypeShadowing n) = TypeShadowing n
of_shadowing (shade.ActionShadowing u) = ActionShadowing u

abbrev pub of_fragments : FragmentError → SchemaError
of_fragments fragments.OutOfMemory = OutOfMemory
of_fragments (fragments.TypeNotDefined c) = TypeNotDefined c
of_fragments (fragments.ActionNotDefined c id) = ActionNotDefined c id
of_fragments (fragments.ReservedName e) = ReservedName e

abbrev pub of_types : ResolveError → SchemaError
of_types resolve.OutOfMemory = OutOfMemory
of_types (resolve.UnknownExtensionType n) = UnknownExtensionType n
of_types (resolve.ReservedName e) = ReservedName e
of_types (resolve.DuplicateCommonType n) = DuplicateCommonType n
of_types (resolve.CycleInCommonTypeReferences n) = CycleInCommonTypeReferences n

abbrev pub of_assembly : AssemblyError → SchemaError
of_assembly assembly.OutOfMemory = OutOfMemory
of_assembly (assembly.DuplicateEntityType n) = DuplicateEntityType n
of_assembly (assembly.DuplicateAction u) = DuplicateAction u
of_assembly (assembly.CycleInActionHierarchy u) = CycleInActionHierarchy u
of_assembly (assembly.ContextNotRecord u) = ContextNotRecord u
of_assembly (assembly.UnknownExtensionType n) = UnknownExtensionType n
of_assembly (assembly.ReservedName e) = ReservedName e

-- The error reports a fault of which this holds. Out of memory reports none.
abbrev pub Tells : (SchemaFault → Type 0) → SchemaError → Type 0
Tells holds e = (f : SchemaFault) → fault_told e ≡ Some f → holds f
