-- What the laws of checks and of resolved fragments say, by the faults of the declarations that fragments write.
-- Rule: well-formed declarations; references (docs/RULES.md).
use Rattle.std.specs.Prelude.{◌≡◌, ◌↔◌, List, Contains, find, is_some}
use Rattle.std.specs.Bool.{Decides}
use Rattle.std.specs.declared.result.Result.TheVariants.{Ok, Err}
use Rattle.cedar_expr_model.specs.Name.{Text, Name, is_reserved}
use Rattle.cedar_expr_leaves.specs.declared.conditional_name.ConditionalName.{ConditionalName}
use Rattle.cedar_schema_model.specs.BagLaws.{HasSchemaFault}
use Rattle.cedar_schema_model.specs.Declarations.{Declarations}
use Rattle.cedar_schema_model.specs.WellFormed.{SchemaFault, undeclared_type, undeclared_action, action_as_entity_type, reserved_name, written_names}
use Rattle.cedar_schema_decl.specs.Defined.{Defined}
use Rattle.cedar_schema_fragments.specs.Marked.{HasAll}
use Rattle.cedar_schema_fragments.specs.Namespaces.{NamespaceForm}
use Rattle.cedar_schema_fragments.specs.Refusals.{Refusal, no_type, no_action, reserved_type}
use Rattle.cedar_schema_fragments.specs.WrittenDeclarations.{AreWritten}
use Rattle.cedar_schema_fragments.specs.declared.namespace_def.ValidatorSchemaFragment.{ValidatorSchemaFragment}
use Rattle.cedar_schema_builder.specs.AllResolved.{all_resolved}
use Rattle.cedar_schema_builder.specs.Checked.{is_action_word}
use Rattle.cedar_schema_builder.specs.WrittenNames.{names_in, entities_named}

-- The names in fragments are the written names of the declarations that they write.
abbrev pub NamesAreWritten : Type 0
NamesAreWritten = (fs : List (ValidatorSchemaFragment ConditionalName ConditionalName)) (d : Declarations) → AreWritten fs d → (n : Name) → Contains (names_in fs) n ↔ Contains (written_names d) n

-- A reserved name is found exactly where that fault is there.
abbrev pub ReservedNamesAreFound : Type 0
ReservedNamesAreFound = (fs : List (ValidatorSchemaFragment ConditionalName ConditionalName)) (d : Declarations) → AreWritten fs d → (x : List Name) → Decides (is_some (find is_reserved (names_in fs))) (HasSchemaFault x d reserved_name)

-- An entity type under the last name of the types of actions is found exactly where that fault is there.
abbrev pub ActionTypesAreFound : Type 0
ActionTypesAreFound = (fs : List (ValidatorSchemaFragment ConditionalName ConditionalName)) (d : Declarations) → AreWritten fs d → (x : List Name) → Decides (is_some (find is_action_word (entities_named fs))) (HasSchemaFault x d action_as_entity_type)

-- the fault that a refusal reports
abbrev pub fault_told : Refusal → SchemaFault
fault_told (no_type c) = undeclared_type
fault_told (no_action p) = undeclared_action
fault_told (reserved_type n) = reserved_name

-- Where resolving is refused, the fault that the refusal reports is there.
abbrev pub RefusalsTellFaults : Type 0
RefusalsTellFaults = (fs : List (ValidatorSchemaFragment ConditionalName ConditionalName)) (d : Declarations) → AreWritten fs d → (s : Defined) → HasAll fs s → (x : List Name) (r : Refusal) → all_resolved s fs ≡ Err r → HasSchemaFault x d (fault_told r)

-- Where all is resolved, each reference and each parent of an action means something.
abbrev pub ResolvedAreDeclared : Type 0
ResolvedAreDeclared = (fs : List (ValidatorSchemaFragment ConditionalName ConditionalName)) (d : Declarations) → AreWritten fs d → (s : Defined) → HasAll fs s → (x : List Name) (gs : List (List (NamespaceForm Name (Name × Text)))) → all_resolved s fs ≡ Ok gs → (HasSchemaFault x d undeclared_type → ⊥) × (HasSchemaFault x d undeclared_action → ⊥)
