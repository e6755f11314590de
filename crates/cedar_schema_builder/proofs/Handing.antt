-- What an error names is at fault, so the fault that it tells is there.
use Rattle.std.proofs.Common.{◌≡◌, List, Option, Some, None, inl, inr, subst}
use Rattle.cedar_expr_model.specs.Name.{Name}
use Rattle.cedar_expr_names.specs.Views.{name_of, plain_name_of, refused_name_of, uid_of}
use Rattle.cedar_schema_model.specs.BagLaws.{HasSchemaFault}
use Rattle.cedar_schema_model.specs.Declarations.{Declarations, common_names, entity_names, action_uids}
use Rattle.cedar_schema_model.specs.WellFormed.{SchemaFault, duplicate_entity_type, duplicate_common_type, duplicate_action, undeclared_type, undeclared_action, cycle_of_common_types, cycle_of_actions, action_as_entity_type, context_not_record, reserved_name, shadowing, unknown_extension_type}
use Rattle.cedar_schema_resolver.proofs.Places.{twice_of}
use Rattle.cedar_schema_builder.specs.Faults.{fault_told}
use Rattle.cedar_schema_builder.specs.Named.{NamesFault}
use Rattle.cedar_schema_builder.specs.declared.err.SchemaError.{SchemaError}
use Rattle.cedar_schema_builder.specs.declared.err.SchemaError.TheVariants.{OutOfMemory, DuplicateEntityType, DuplicateCommonType, DuplicateAction, TypeNotDefined, ActionNotDefined, CycleInCommonTypeReferences, CycleInActionHierarchy, ActionEntityTypeDeclared, ContextNotRecord, ReservedName, TypeShadowing, ActionShadowing, UnknownExtensionType}

-- the fault that is told is one of which this holds
abbrev IsTold : (SchemaFault → Type 0) → Option SchemaFault → Type 0
IsTold holds o = (f : SchemaFault) → o ≡ Some f → holds f

some_is : {A : Type 0} (g f : A) → Some g ≡ Some f → g ≡ f
some_is g f h = cc

-- what is told, if a fault is
some_told : (P : SchemaFault → Type 0) (g : SchemaFault) → P g → IsTold P (Some g)
some_told P g p f q = subst P (some_is g f q) p

none_told : (P : SchemaFault → Type 0) → IsTold P None
none_told P f q = absurd (cc)

pub named_told : (x : List Name) (d : Declarations) (e : SchemaError) → NamesFault x d e → IsTold (HasSchemaFault x d) (fault_told e)
named_told x d OutOfMemory h = none_told (HasSchemaFault x d)
named_told x d (DuplicateEntityType n) h = some_told (HasSchemaFault x d) duplicate_entity_type (twice_of (entity_names d) (name_of n) h)
named_told x d (DuplicateCommonType n) h = some_told (HasSchemaFault x d) duplicate_common_type (twice_of (common_names d) (name_of n) h)
named_told x d (DuplicateAction u) h = some_told (HasSchemaFault x d) duplicate_action (twice_of (action_uids d) (uid_of u) h)
named_told x d (TypeNotDefined c) h = some_told (HasSchemaFault x d) undeclared_type (h.0, h.1, h.3)
named_told x d (ActionNotDefined c id) h = some_told (HasSchemaFault x d) undeclared_action (h.0, h.1, (h.2.0, h.2.1, h.2.4))
named_told x d (CycleInCommonTypeReferences n) h = some_told (HasSchemaFault x d) cycle_of_common_types (name_of n, h)
named_told x d (CycleInActionHierarchy u) h = some_told (HasSchemaFault x d) cycle_of_actions (uid_of u, h)
named_told x d (ActionEntityTypeDeclared n) h = some_told (HasSchemaFault x d) action_as_entity_type (h.0, h.1, h.3)
named_told x d (ContextNotRecord u) h = some_told (HasSchemaFault x d) context_not_record (h.0, h.1, h.3)
named_told x d (ReservedName e) h = some_told (HasSchemaFault x d) reserved_name (refused_name_of e, h.0, h.1)
named_told x d (TypeShadowing n) h = some_told (HasSchemaFault x d) shadowing (inl (name_of n, h.0, h.1, h.2))
named_told x d (ActionShadowing u) h = some_told (HasSchemaFault x d) shadowing (inr (uid_of u, h.0, h.1, h.2))
named_told x d (UnknownExtensionType n) h = some_told (HasSchemaFault x d) unknown_extension_type (plain_name_of n, h.0, h.1)
