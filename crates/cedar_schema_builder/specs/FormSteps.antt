-- What the steps of building come to, of any fragments.
-- Rule: well-formed declarations; references; schemas (docs/RULES.md).
use Rattle.std.specs.Prelude.{◌≡◌, ◌⊎◌, List, true, None, Contains, find}
use Rattle.std.specs.declared.result.Result.TheVariants.{Ok}
use Rattle.cedar_expr_model.specs.Name.{Name, is_reserved}
use Rattle.cedar_expr_names.specs.Views.{name_of, plain_name_of, refused_name_of, uid_of}
use Rattle.cedar_schema_model.specs.Descent.{Reaches}
use Rattle.cedar_schema_model.specs.Reference.{meant_entity}
use Rattle.cedar_schema_decl.specs.Defined.{Defined, is_defined}
use Rattle.cedar_schema_decl.specs.Shadowing.{first_shadowing}
use Rattle.cedar_schema_builder.specs.AllResolved.{all_resolved}
use Rattle.cedar_schema_builder.specs.Checked.{is_action_word}
use Rattle.cedar_schema_builder.specs.WrittenNames.{names_in, entities_named}
use Rattle.cedar_schema_resolver.specs.Numbers.{StandsTwice}
use Rattle.cedar_schema_resolver.specs.Solved.{names_of}
use Rattle.cedar_schema_resolver.specs.Uses.{UsesIn}
use Rattle.cedar_schema_assembly.specs.Seen.{parent_kinds}
use Rattle.cedar_schema_builder.specs.Writing.{CommonForms, EntityForms, ActionForms, commons_of, entities_of, actions_of, names_of_entities, uids_of_actions}
use Rattle.std.specs.List.{flat_map}
use Rattle.cedar_schema_builder.specs.OfFragments.{Fragments, AsResolved, all_of, extensions_named, HasParentIn, HasOtherContextIn, IsFaultBy}
use Rattle.cedar_schema_builder.specs.declared.err.SchemaError.{SchemaError}
use Rattle.cedar_schema_builder.specs.declared.err.SchemaError.TheVariants.{OutOfMemory, DuplicateEntityType, DuplicateCommonType, DuplicateAction, TypeNotDefined, ActionNotDefined, CycleInCommonTypeReferences, CycleInActionHierarchy, ActionEntityTypeDeclared, ContextNotRecord, ReservedName, TypeShadowing, ActionShadowing, UnknownExtensionType}

-- No name is reserved, and no entity type has the last word of the types of actions.
pub record AreNamesFormed (fs : Fragments) : Type 0 where
  pub none_reserved : find is_reserved (names_in fs) ≡ None
  pub no_action_type : find is_action_word (entities_named fs) ≡ None

-- What the error names is at fault, by whichever sets, and whichever extension types are known.
pub record IsFaultOfNames (fs : Fragments) (e : SchemaError) : Type 0 where
  pub each : (s : Defined) (x : List Name) → IsFaultBy s x fs e

-- Nothing shadows, and these are what the fragments declare with each name resolved.
pub record AreFormsOf (fs : Fragments) (s : Defined) (cs : CommonForms) (es : EntityForms) (as_ : ActionForms) : Type 0 where
  pub none_shadows : first_shadowing s ≡ None
  pub resolved : List (List AsResolved)
  pub resolves : all_resolved s fs ≡ Ok resolved
  pub commons : cs ≡ commons_of (all_of resolved)
  pub entities : es ≡ entities_of (all_of resolved)
  pub actions : as_ ≡ actions_of (all_of resolved)

-- Where no name is reserved, what the error names is at fault, whichever extension types are known.
pub record IsFaultOfSets (fs : Fragments) (s : Defined) (e : SchemaError) : Type 0 where
  pub each : find is_reserved (names_in fs) ≡ None → (x : List Name) → IsFaultBy s x fs e

-- A reserved name is that of a declared entity type, or of the type of a parent of an action, or of an extension type.
abbrev pub IsReservedOfForms : Defined → CommonForms → EntityForms → ActionForms → Name → Type 0
IsReservedOfForms s cs es as_ n = (is_reserved n ≡ true) × ((is_defined s (meant_entity n) ≡ true) ⊎ (Contains (names_of_entities es) n ⊎ (Contains (flat_map parent_kinds as_) n ⊎ Contains (extensions_named cs es as_) n)))

-- What the error names is at fault in common types, entity types and actions with each name resolved.
abbrev pub IsFaultOfForms : Defined → List Name → CommonForms → EntityForms → ActionForms → SchemaError → Type 0
IsFaultOfForms s x cs es as_ OutOfMemory = Unit {0}
IsFaultOfForms s x cs es as_ (DuplicateEntityType n) = StandsTwice (names_of_entities es) (name_of n)
IsFaultOfForms s x cs es as_ (DuplicateCommonType n) = StandsTwice (names_of cs) (name_of n)
IsFaultOfForms s x cs es as_ (DuplicateAction u) = StandsTwice (uids_of_actions as_) (uid_of u)
IsFaultOfForms s x cs es as_ (TypeNotDefined c) = ⊥
IsFaultOfForms s x cs es as_ (ActionNotDefined c id) = ⊥
IsFaultOfForms s x cs es as_ (CycleInCommonTypeReferences n) = Reaches (UsesIn s cs) (name_of n) (name_of n)
IsFaultOfForms s x cs es as_ (CycleInActionHierarchy u) = Reaches (HasParentIn as_) (uid_of u) (uid_of u)
IsFaultOfForms s x cs es as_ (ActionEntityTypeDeclared n) = ⊥
IsFaultOfForms s x cs es as_ (ContextNotRecord u) = HasOtherContextIn s x cs as_ (uid_of u)
IsFaultOfForms s x cs es as_ (ReservedName e) = IsReservedOfForms s cs es as_ (refused_name_of e)
IsFaultOfForms s x cs es as_ (TypeShadowing n) = ⊥
IsFaultOfForms s x cs es as_ (ActionShadowing u) = ⊥
IsFaultOfForms s x cs es as_ (UnknownExtensionType n) = Contains (extensions_named cs es as_) (plain_name_of n) × (Contains x (plain_name_of n) → ⊥)
