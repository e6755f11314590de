-- What the laws say of the schemas that are built of fragments.
-- Rule: declarations; schemas; well-formed declarations (docs/RULES.md).
use Rattle.std.specs.Prelude.{◌≡◌, ◌⊎◌, ◌++◌, List, map, true, false, Some, None, Contains, is_some}
use Rattle.std.specs.List.{flat_map}
use Rattle.std.specs.declared.result.Result.TheVariants.{Ok}
use Rattle.cedar_expr_model.specs.Name.{Text, Name, is_reserved}
use Rattle.cedar_expr_model.specs.Uid.{Uid}
use Rattle.cedar_expr_names.specs.Views.{name_of, type_name_of}
use Rattle.cedar_expr_names.specs.declared.entity.EntityType.{EntityType}
use Rattle.cedar_expr_names.specs.declared.internal_name.InternalName.{InternalName}
use Rattle.cedar_expr_leaves.specs.declared.conditional_name.ConditionalName.{ConditionalName}
use Rattle.cedar_schema_model.specs.Reference.{action_word}
use Rattle.cedar_schema_model.specs.Declarations.{Declarations}
use Rattle.cedar_schema_model.specs.Descent.{ActionDescends}
use Rattle.cedar_schema_model.specs.Resolved.{schema_of}
use Rattle.cedar_schema_model.specs.BagLaws.{HasTwice, HasSchemaFault, IsReordered}
use Rattle.cedar_schema_model.specs.WellFormed.{SchemaFault, duplicate_entity_type, duplicate_action, cycle_of_actions, action_as_entity_type, context_not_record, reserved_name, shadowing, IsWellFormed}
use Rattle.cedar_schema_model.specs.Contexts.{is_record_type}
use Rattle.cedar_schema_model.specs.Kept.{Kept}
use Rattle.cedar_schema_model.specs.KeptOf.{IsKeptOf}
use Rattle.cedar_schema_decl.specs.Conditional.{conditional_of}
use Rattle.cedar_schema_decl.specs.Defined.{Defined}
use Rattle.cedar_schema_decl.specs.Forms.{TypeForm, EntityForm, ActionForm}
use Rattle.cedar_schema_decl.specs.Requalified.{each}
use Rattle.cedar_schema_decl.specs.Shadowing.{first_shadowing}
use Rattle.cedar_schema_fragments.specs.Marked.{HasAll}
use Rattle.cedar_schema_fragments.specs.Namespaces.{NamespaceForm, fragment_form}
use Rattle.cedar_schema_fragments.specs.Resolved.{namespace_resolved}
use Rattle.cedar_schema_fragments.specs.WrittenDeclarations.{all_forms, AreWritten}
use Rattle.cedar_schema_fragments.specs.declared.namespace_def.ValidatorSchemaFragment.{ValidatorSchemaFragment}
use Rattle.cedar_schema_resolver.specs.Laws.{fault_told}
use Rattle.cedar_schema_resolver.specs.Meanings.{Setting, told}
use Rattle.cedar_schema_resolver.specs.Refusals.{AreKnown, TellsUntold}
use Rattle.cedar_schema_resolver.specs.Solved.{IsSolved}
use Rattle.cedar_schema_resolver.specs.declared.err.ResolveError.{ResolveError}
use Rattle.cedar_schema_assembly.specs.Pieces.{AreTypesOf, AreActionsOf}
use Rattle.cedar_schema_assembly.specs.Told.{schema_told, types_in}
use Rattle.cedar_schema_builder.specs.Writing.{CommonForms, EntityForms, ActionForms, commons_of, entities_of, actions_of, WritesAll, names_of_entities, uids_of_actions, names_declared, names_referred}

-- all namespaces of fragments with resolved names
abbrev pub resolved_forms : List (ValidatorSchemaFragment InternalName EntityType) → List (NamespaceForm Name (Name × Text))
resolved_forms gs = flat_map (fragment_form name_of type_name_of) gs

-- What comes of fragments once their names are resolved writes the declarations that they write.
abbrev pub ResolvedFragmentsAreWritten : Type 0
ResolvedFragmentsAreWritten = (fs : List (ValidatorSchemaFragment ConditionalName ConditionalName)) (d : Declarations) → AreWritten fs d → (s : Defined) → HasAll fs s
    → (ns : List (NamespaceForm Name (Name × Text))) → each (namespace_resolved s) (all_forms fs) ≡ Ok ns → WritesAll s d (commons_of ns) (entities_of ns) (actions_of ns)

-- What comes of fragments that are resolved each by itself writes the declarations that they write.
abbrev pub ResolvedOneByOneAreWritten : Type 0
ResolvedOneByOneAreWritten = (fs : List (ValidatorSchemaFragment ConditionalName ConditionalName)) (d : Declarations) → AreWritten fs d → (s : Defined) → HasAll fs s
    → (gs : List (ValidatorSchemaFragment InternalName EntityType)) → each (each (namespace_resolved s)) (map (fragment_form conditional_of conditional_of) fs) ≡ Ok (map (fragment_form name_of type_name_of) gs)
    → WritesAll s d (commons_of (resolved_forms gs)) (entities_of (resolved_forms gs)) (actions_of (resolved_forms gs))

-- These entity types and actions write the declarations, and the types of the setting are those of the common types.
pub record AreTold (s : Setting) (d : Declarations) (cs : CommonForms) (es : EntityForms) (as_ : ActionForms) : Type 0 where
  pub writes : WritesAll s.defined d cs es as_
  pub solved : IsSolved s cs

-- The schema that they describe is that of the declarations.
abbrev pub ResolvedDeclarationsTellTheSchema : Type 0
ResolvedDeclarationsTellTheSchema = (s : Setting) (d : Declarations) (cs : CommonForms) (es : EntityForms) (as_ : ActionForms) → AreTold s d cs es as_ → schema_told s es as_ ≡ schema_of d

-- What is kept of it is what is kept of that of the declarations.
abbrev pub BuiltIsTheSchema : Type 0
BuiltIsTheSchema = (s : Setting) (d : Declarations) (cs : CommonForms) (es : EntityForms) (as_ : ActionForms) → AreTold s d cs es as_
    → (k : Kept) → AreTypesOf (schema_told s es as_) k.types → AreActionsOf (schema_told s es as_) k.actions → IsKeptOf (schema_of d) k

-- What is kept of the schema of well-formed declarations is kept of that of the same in another order.
abbrev pub OrderOfDeclarationsIsFree : Type 0
OrderOfDeclarationsIsFree = (x : List Name) (d e : Declarations) → IsReordered d e → IsWellFormed x d → (k : Kept) → IsKeptOf (schema_of d) k → IsKeptOf (schema_of e) k

-- Nothing is wrong with what is resolved: no name is repeated or shadows, no action descends from itself, each context is a record,
-- and the extension types are known. Nor is a name reserved in the declarations, or an entity type called as the type of actions.
pub record AreFaultless (s : Setting) (d : Declarations) (es : EntityForms) (as_ : ActionForms) : Type 0 where
  pub types_once : HasTwice (names_of_entities es) → ⊥
  pub actions_once : HasTwice (uids_of_actions as_) → ⊥
  pub apart : (u : Uid) → ActionDescends (schema_told s es as_) u u → ⊥
  pub contexts : (a : Uid × ActionForm Name (Name × Text)) → Contains as_ a → is_record_type (told s a.1.context) ≡ true
  pub types_known : (e : Name × EntityForm Name) → Contains es e → (t : TypeForm Name) → Contains (types_in e.1) t → AreKnown s.extensions t
  pub contexts_known : (a : Uid × ActionForm Name (Name × Text)) → Contains as_ a → AreKnown s.extensions a.1.context
  pub none_shadows : first_shadowing s.defined ≡ None
  pub none_reserved : HasSchemaFault s.extensions d reserved_name → ⊥
  pub no_action_type : HasSchemaFault s.extensions d action_as_entity_type → ⊥

-- Where nothing is wrong the declarations are well-formed.
abbrev pub BuiltAreWellFormed : Type 0
BuiltAreWellFormed = (s : Setting) (d : Declarations) (cs : CommonForms) (es : EntityForms) (as_ : ActionForms) → AreTold s d cs es as_ → AreFaultless s d es as_ → IsWellFormed s.extensions d

-- Why what is resolved is refused, before any type is told.
pub data Wrong : Type 0 where
  type_twice action_twice action_below_itself action_type reserved_there shadowing_there : Wrong

-- the fault of the declarations
abbrev pub fault_of : Wrong → SchemaFault
fault_of type_twice = duplicate_entity_type
fault_of action_twice = duplicate_action
fault_of action_below_itself = cycle_of_actions
fault_of action_type = action_as_entity_type
fault_of reserved_there = reserved_name
fault_of shadowing_there = shadowing

-- It is so.
abbrev pub IsWrong : Setting → CommonForms → EntityForms → ActionForms → Wrong → Type 0
IsWrong s cs es as_ type_twice = HasTwice (names_of_entities es)
IsWrong s cs es as_ action_twice = HasTwice (uids_of_actions as_)
IsWrong s cs es as_ action_below_itself = (u : Uid) × ActionDescends (schema_told s es as_) u u
IsWrong s cs es as_ action_type = (n : Name) × Contains (names_of_entities es) n × (action_word ≡ n.base)
IsWrong s cs es as_ reserved_there = (n : Name) × Contains (names_declared cs es as_ ++ names_referred es as_) n × (is_reserved n ≡ true)
IsWrong s cs es as_ shadowing_there = is_some (first_shadowing s.defined) ≡ true

-- The fault is there.
abbrev pub WrongsAreFaults : Type 0
WrongsAreFaults = (s : Setting) (d : Declarations) (cs : CommonForms) (es : EntityForms) (as_ : ActionForms) → WritesAll s.defined d cs es as_ → (w : Wrong) → IsWrong s cs es as_ w → HasSchemaFault s.extensions d (fault_of w)

-- A context that isn't told as a record is a fault of the declarations.
abbrev pub ContextsAreFaults : Type 0
ContextsAreFaults = (s : Setting) (d : Declarations) (cs : CommonForms) (es : EntityForms) (as_ : ActionForms) → AreTold s d cs es as_
    → (a : Uid × ActionForm Name (Name × Text)) → Contains as_ a → is_record_type (told s a.1.context) ≡ false → HasSchemaFault s.extensions d context_not_record

-- a type that stands in an entity type or an action
abbrev pub StandsIn : EntityForms → ActionForms → TypeForm Name → Type 0
StandsIn es as_ t = ((e : Name × EntityForm Name) × Contains es e × Contains (types_in e.1) t) ⊎ ((a : Uid × ActionForm Name (Name × Text)) × Contains as_ a × (a.1.context ≡ t))

-- A type of theirs that can't be told is a fault of the declarations.
abbrev pub UntoldAreFaults : Type 0
UntoldAreFaults = (s : Setting) (d : Declarations) (cs : CommonForms) (es : EntityForms) (as_ : ActionForms) → WritesAll s.defined d cs es as_
    → (t : TypeForm Name) → StandsIn es as_ t → (r : ResolveError) → TellsUntold s t r → (f : SchemaFault) → fault_told r ≡ Some f → HasSchemaFault s.extensions d f
