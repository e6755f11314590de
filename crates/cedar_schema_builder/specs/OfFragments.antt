-- What fragments have to be that a schema is built of, and what is at fault in others: by what they declare and by what their names mean,
-- whether or not anything writes them.
-- Rule: well-formed declarations; references; schemas (docs/RULES.md).
use Rattle.std.specs.Prelude.{◌≡◌, ◌++◌, List, map, false, None, Some, Contains, find}
use Rattle.std.specs.List.{flat_map}
use Rattle.std.specs.Rc.{rc_str_bytes}
use Rattle.std.specs.declared.result.Result.TheVariants.{Ok, Err}
use Rattle.cedar_expr_model.specs.Name.{Text, Name, is_reserved}
use Rattle.cedar_expr_model.specs.Uid.{Uid}
use Rattle.cedar_expr_names.specs.Views.{name_of, plain_name_of, refused_name_of, uid_of}
use Rattle.cedar_expr_leaves.specs.declared.conditional_name.ConditionalName.{ConditionalName}
use Rattle.cedar_schema_model.specs.BagLaws.{HasTwice}
use Rattle.cedar_schema_model.specs.Descent.{Reaches}
use Rattle.cedar_schema_model.specs.Schema.{Schema}
use Rattle.cedar_schema_model.specs.Types.{Ty}
use Rattle.cedar_schema_model.specs.Contexts.{is_record_type}
use Rattle.cedar_schema_model.specs.Kept.{KeptType, KeptAction}
use Rattle.cedar_schema_decl.specs.Conditional.{Conditional, conditional_of}
use Rattle.cedar_schema_decl.specs.Defined.{Defined, nothing_defined}
use Rattle.cedar_schema_decl.specs.Forms.{ActionForm}
use Rattle.cedar_schema_decl.specs.Shadowing.{shadowing_type, shadowing_action, first_shadowing}
use Rattle.cedar_schema_fragments.specs.Marked.{all_with, with_fragment, HasAll}
use Rattle.cedar_schema_fragments.specs.Namespaces.{NamespaceForm}
use Rattle.cedar_schema_fragments.specs.Refusals.{no_type, no_action}
use Rattle.cedar_schema_fragments.specs.WrittenDeclarations.{as_uid, all_forms}
use Rattle.cedar_schema_fragments.specs.declared.namespace_def.ValidatorSchemaFragment.{ValidatorSchemaFragment}
use Rattle.cedar_schema_builder.specs.AllResolved.{all_resolved}
use Rattle.cedar_schema_builder.specs.Checked.{is_action_word}
use Rattle.cedar_schema_builder.specs.WrittenNames.{names_in, entities_named}
use Rattle.cedar_schema_resolver.specs.Numbers.{StandsTwice}
use Rattle.cedar_schema_resolver.specs.Meanings.{setting, told}
use Rattle.cedar_schema_resolver.specs.Refusals.{extensions_of}
use Rattle.cedar_schema_resolver.specs.Solved.{IsSolved}
use Rattle.cedar_schema_resolver.specs.Uses.{UsesIn}
use Rattle.cedar_schema_assembly.specs.Pieces.{AreTypesOf, AreActionsOf}
use Rattle.cedar_schema_assembly.specs.Told.{schema_told, types_in}
use Rattle.cedar_schema_assembly.specs.Found.{AreContextsRecords}
use Rattle.cedar_schema_builder.specs.Writing.{CommonForms, EntityForms, ActionForms, commons_of, entities_of, actions_of}
use Rattle.cedar_schema_builder.specs.declared.err.SchemaError.{SchemaError}
use Rattle.cedar_schema_builder.specs.declared.err.SchemaError.TheVariants.{OutOfMemory, DuplicateEntityType, DuplicateCommonType, DuplicateAction, TypeNotDefined, ActionNotDefined, CycleInCommonTypeReferences, CycleInActionHierarchy, ActionEntityTypeDeclared, ContextNotRecord, ReservedName, TypeShadowing, ActionShadowing, UnknownExtensionType}

abbrev pub Fragments : Type 0
Fragments = List (ValidatorSchemaFragment ConditionalName ConditionalName)

-- a namespace, with each name as one of several, and with each name resolved
abbrev pub AsDeclared : Type 0
AsDeclared = NamespaceForm Conditional (Conditional × Text)

abbrev pub AsResolved : Type 0
AsResolved = NamespaceForm Name (Name × Text)

-- the sets of all that fragments declare
abbrev pub sets_of : Fragments → Defined
sets_of fs = all_with with_fragment fs nothing_defined

-- the names of the common types that a namespace declares, and the uids of its actions; and those of all that fragments declare
abbrev pub commons_in : AsDeclared → List Name
commons_in n = map (λ c. c.0) n.commons

abbrev pub actions_in : AsDeclared → List Uid
actions_in n = map (λ a. a.0) n.actions

abbrev pub commons_named : Fragments → List Name
commons_named fs = flat_map commons_in (all_forms fs)

abbrev pub actions_named : Fragments → List Uid
actions_named fs = flat_map actions_in (all_forms fs)

-- the namespaces of all fragments, one after the other
abbrev pub all_of : List (List AsResolved) → List AsResolved
all_of gs = flat_map (λ ns. ns) gs

-- the extension types that these name: common types in their definitions, entity types, and actions in their contexts
abbrev pub extensions_named : CommonForms → EntityForms → ActionForms → List Name
extensions_named cs es as_ = flat_map (λ c. extensions_of c.1) cs ++ (flat_map (λ e. flat_map extensions_of (types_in e.1)) es ++ flat_map (λ a. extensions_of a.1.context) as_)

-- the action has the other as its parent
abbrev pub HasParentIn : ActionForms → Uid → Uid → Type 0
HasParentIn as_ u v = (a : Uid × ActionForm Name (Name × Text)) × Contains as_ a × (u ≡ a.0) × Contains (map as_uid a.1.parents) v

-- With the types that the common types stand for, the context of this action isn't told as a type of records.
abbrev pub HasOtherContextIn : Defined → List Name → CommonForms → ActionForms → Uid → Type 0
HasOtherContextIn s x cs as_ u = (commons : Name → Ty) × IsSolved (setting commons s x) cs
    × ((a : Uid × ActionForm Name (Name × Text)) × Contains as_ a × (a.0 ≡ u) × (is_record_type (told (setting commons s x) a.1.context) ≡ false))

-- Fragments of which a schema is built, where these extension types are known: no name in them is reserved, no entity type has the last
-- word of the types of actions, nothing shadows, and nothing is declared twice. Each name means something by the sets of all that is
-- declared. No common type uses itself, and these are the types that they stand for. All extension types are known, each context is
-- told as a type of records, and no action descends from itself.
pub record AreFormed (x : List Name) (fs : Fragments) : Type 0 where
  pub has_all : HasAll fs (sets_of fs)
  pub none_reserved : find is_reserved (names_in fs) ≡ None
  pub no_action_type : find is_action_word (entities_named fs) ≡ None
  pub none_shadows : first_shadowing (sets_of fs) ≡ None
  pub commons_once : HasTwice (commons_named fs) → ⊥
  pub types_once : HasTwice (entities_named fs) → ⊥
  pub actions_once : HasTwice (actions_named fs) → ⊥
  pub resolved : List (List AsResolved)
  pub resolves : all_resolved (sets_of fs) fs ≡ Ok resolved
  pub commons : Name → Ty
  pub solved : IsSolved (setting commons (sets_of fs) x) (commons_of (all_of resolved))
  pub known : (n : Name) → Contains (extensions_named (commons_of (all_of resolved)) (entities_of (all_of resolved)) (actions_of (all_of resolved))) n → Contains x n
  pub contexts : AreContextsRecords (setting commons (sets_of fs) x) (actions_of (all_of resolved))
  pub apart : (u : Uid) → Reaches (HasParentIn (actions_of (all_of resolved))) u u → ⊥

-- the schema that they describe
abbrev pub schema_formed : (x : List Name) (fs : Fragments) → AreFormed x fs → Schema
schema_formed x fs f = schema_told (setting f.commons (sets_of fs) x) (entities_of (all_of f.resolved)) (actions_of (all_of f.resolved))

-- The fragments are such, and these are the entity types and the actions of the schema that they describe.
pub record AreBuiltOfFormed (x : List Name) (fs : Fragments) (ts : List KeptType) (ks : List KeptAction) : Type 0 where
  pub formed : AreFormed x fs
  pub types : AreTypesOf (schema_formed x fs formed) ts
  pub actions : AreActionsOf (schema_formed x fs formed) ks

-- With each name resolved it is so of the common types, the entity types and the actions.
abbrev pub OfResolved : Defined → Fragments → (CommonForms → EntityForms → ActionForms → Type 0) → Type 0
OfResolved s fs holds = (gs : List (List AsResolved)) × (all_resolved s fs ≡ Ok gs) × holds (commons_of (all_of gs)) (entities_of (all_of gs)) (actions_of (all_of gs))

-- What the error names is at fault in the fragments, by these sets. Out of memory names nothing.
abbrev pub IsFaultBy : Defined → List Name → Fragments → SchemaError → Type 0
IsFaultBy s x fs OutOfMemory = Unit {0}
IsFaultBy s x fs (DuplicateEntityType n) = StandsTwice (entities_named fs) (name_of n)
IsFaultBy s x fs (DuplicateCommonType n) = StandsTwice (commons_named fs) (name_of n)
IsFaultBy s x fs (DuplicateAction u) = StandsTwice (actions_named fs) (uid_of u)
IsFaultBy s x fs (TypeNotDefined c) = all_resolved s fs ≡ Err (no_type (conditional_of c))
IsFaultBy s x fs (ActionNotDefined c id) = all_resolved s fs ≡ Err (no_action (conditional_of c, rc_str_bytes id))
IsFaultBy s x fs (CycleInCommonTypeReferences n) = OfResolved s fs (λ cs es as_. Reaches (UsesIn s cs) (name_of n) (name_of n))
IsFaultBy s x fs (CycleInActionHierarchy u) = OfResolved s fs (λ cs es as_. Reaches (HasParentIn as_) (uid_of u) (uid_of u))
IsFaultBy s x fs (ActionEntityTypeDeclared n) = find is_action_word (entities_named fs) ≡ Some (name_of n)
IsFaultBy s x fs (ContextNotRecord u) = OfResolved s fs (λ cs es as_. HasOtherContextIn s x cs as_ (uid_of u))
IsFaultBy s x fs (ReservedName e) = find is_reserved (names_in fs) ≡ Some (refused_name_of e)
IsFaultBy s x fs (TypeShadowing n) = first_shadowing s ≡ Some (shadowing_type (name_of n))
IsFaultBy s x fs (ActionShadowing u) = first_shadowing s ≡ Some (shadowing_action (uid_of u))
IsFaultBy s x fs (UnknownExtensionType n) = OfResolved s fs (λ cs es as_. Contains (extensions_named cs es as_) (plain_name_of n)) × (Contains x (plain_name_of n) → ⊥)

-- What the error names is at fault in the fragments, by the sets of all that they declare.
abbrev pub IsFaultInFragments : List Name → Fragments → SchemaError → Type 0
IsFaultInFragments x fs e = IsFaultBy (sets_of fs) x fs e
