-- What refusals name, in the declarations that fragments write.
-- Rule: well-formed declarations; references (docs/RULES.md).
use Rattle.std.specs.Prelude.{◌≡◌, List, true, Option, Some, None, Contains, find}
use Rattle.std.specs.declared.result.Result.TheVariants.{Err}
use Rattle.cedar_expr_model.specs.Name.{Text, Name, is_reserved}
use Rattle.cedar_expr_model.specs.Uid.{Uid}
use Rattle.cedar_expr_leaves.specs.declared.conditional_name.ConditionalName.{ConditionalName}
use Rattle.cedar_schema_model.specs.Declarations.{EntityDeclaration, ActionDeclaration, Declarations, entity_name, meant, parent_meant, references}
use Rattle.cedar_schema_model.specs.Reference.{Namespace, ReferenceKind, to_entity, Reference, action_word}
use Rattle.cedar_schema_model.specs.WellFormed.{written_names}
use Rattle.cedar_schema_decl.specs.Conditional.{Conditional, conditional_in}
use Rattle.cedar_schema_decl.specs.Defined.{Defined}
use Rattle.cedar_schema_decl.specs.Laws.{namespace_parts}
use Rattle.cedar_schema_fragments.specs.Marked.{HasAll}
use Rattle.cedar_schema_fragments.specs.Refusals.{Refusal, no_type, no_action, reserved_type}
use Rattle.cedar_schema_fragments.specs.WrittenDeclarations.{AreWritten}
use Rattle.cedar_schema_fragments.specs.declared.namespace_def.ValidatorSchemaFragment.{ValidatorSchemaFragment}
use Rattle.cedar_schema_builder.specs.AllResolved.{all_resolved}
use Rattle.cedar_schema_builder.specs.Checked.{is_action_word}
use Rattle.cedar_schema_builder.specs.WrittenNames.{names_in, entities_named}

-- It is the name that is written in this namespace, where this is due, with exactly the names that it may stand for there.
abbrev pub IsWrittenIn : Namespace → ReferenceKind → Name → Conditional → Type 0
IsWrittenIn ns k n c = (space : Option Name) × (namespace_parts space ≡ ns) × (conditional_in space k n ≡ c)

-- A reference of the declarations is written so, and means nothing.
abbrev pub IsUndeclared : Declarations → Conditional → Type 0
IsUndeclared d c = (r : Reference) × Contains (references d) r × IsWrittenIn r.namespace r.kind r.name c × (meant d r ≡ None)

-- A parent of an action is written so, and means nothing.
abbrev pub IsUndeclaredParent : Declarations → Conditional × Text → Type 0
IsUndeclaredParent d p = (a : ActionDeclaration) × Contains d.actions a × ((u : Uid) × Contains a.parents u × IsWrittenIn a.namespace to_entity u.kind p.0 × (u.id ≡ p.1) × (parent_meant d a.namespace u ≡ None))

-- The name is written there, and reserved.
abbrev pub IsReservedThere : Declarations → Name → Type 0
IsReservedThere d n = Contains (written_names d) n × (is_reserved n ≡ true)

-- An entity type of this name is declared, which is called as the types of actions.
abbrev pub IsActionType : Declarations → Name → Type 0
IsActionType d n = (t : EntityDeclaration) × Contains d.entities t × (entity_name t ≡ n) × (action_word ≡ t.word)

-- What a refusal names is at fault in the declarations.
abbrev pub NamesRefused : Declarations → Refusal → Type 0
NamesRefused d (no_type c) = IsUndeclared d c
NamesRefused d (no_action p) = IsUndeclaredParent d p
NamesRefused d (reserved_type n) = IsReservedThere d n

-- Where resolving is refused, what the refusal names is at fault.
abbrev pub RefusalsNameFaults : Type 0
RefusalsNameFaults = (fs : List (ValidatorSchemaFragment ConditionalName ConditionalName)) (d : Declarations) → AreWritten fs d → (s : Defined) → HasAll fs s → (r : Refusal) → all_resolved s fs ≡ Err r → NamesRefused d r

-- The reserved name that is found is one of the declarations.
abbrev pub ReservedNamesAreThere : Type 0
ReservedNamesAreThere = (fs : List (ValidatorSchemaFragment ConditionalName ConditionalName)) (d : Declarations) → AreWritten fs d → (n : Name) → find is_reserved (names_in fs) ≡ Some n → IsReservedThere d n

-- The entity type that is found under the last name of the types of actions is one of the declarations.
abbrev pub ActionTypesAreThere : Type 0
ActionTypesAreThere = (fs : List (ValidatorSchemaFragment ConditionalName ConditionalName)) (d : Declarations) → AreWritten fs d → (n : Name) → find is_action_word (entities_named fs) ≡ Some n → IsActionType d n
