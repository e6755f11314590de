-- What a refusal tells: the fault that is there.
-- Rule: well-formed declarations (docs/RULES.md).
use Rattle.std.specs.Prelude.{◌≡◌, ◌⊎◌, List, [], ◌∷◌, true, false, Contains}
use Rattle.cedar_expr_model.specs.Name.{Name, is_reserved}
use Rattle.cedar_expr_model.specs.Uid.{Uid}
use Rattle.cedar_expr_names.specs.Views.{name_of, plain_name_of, uid_of, refused_name_of}
use Rattle.cedar_schema_model.specs.Contexts.{is_record_type}
use Rattle.cedar_schema_decl.specs.Forms.{TypeForm}
use Rattle.cedar_schema_model.specs.Descent.{ActionDescends}
use Rattle.cedar_schema_resolver.specs.Numbers.{StandsTwice}
use Rattle.cedar_schema_resolver.specs.Meanings.{Setting, told}
use Rattle.cedar_schema_resolver.specs.Refusals.{IsUnknownIn, IsReservedIn}
use Rattle.cedar_schema_resolver.specs.declared.err.ResolveError.{ResolveError}
use Rattle.cedar_schema_resolver.specs.declared.err.ResolveError.TheVariants as resolve
use Rattle.cedar_schema_assembly.specs.Told.{schema_told, types_in}
use Rattle.cedar_schema_assembly.specs.Seen.{WrittenType, WrittenAction, names_written, uids_written, parent_kinds}
use Rattle.cedar_schema_assembly.specs.declared.err.AssemblyError.{AssemblyError}
use Rattle.cedar_schema_assembly.specs.declared.err.AssemblyError.TheVariants.{OutOfMemory, DuplicateEntityType, DuplicateAction, CycleInActionHierarchy, ContextNotRecord, UnknownExtensionType, ReservedName}

-- The error tells that one of these names is reserved. Out of memory tells nothing, here and below.
abbrev pub TellsReserved : List Name → AssemblyError → Type 0
TellsReserved ns OutOfMemory = Unit {0}
TellsReserved ns (DuplicateEntityType n) = ⊥
TellsReserved ns (DuplicateAction u) = ⊥
TellsReserved ns (CycleInActionHierarchy u) = ⊥
TellsReserved ns (ContextNotRecord u) = ⊥
TellsReserved ns (UnknownExtensionType n) = ⊥
TellsReserved ns (ReservedName e) = (is_reserved (refused_name_of e) ≡ true) × Contains ns (refused_name_of e)

-- The error tells a fault of one of these types.
abbrev pub TellsAmong : Setting → List (TypeForm Name) → AssemblyError → Type 0
TellsAmong s ts OutOfMemory = Unit {0}
TellsAmong s ts (DuplicateEntityType n) = ⊥
TellsAmong s ts (DuplicateAction u) = ⊥
TellsAmong s ts (CycleInActionHierarchy u) = ⊥
TellsAmong s ts (ContextNotRecord u) = ⊥
TellsAmong s ts (UnknownExtensionType n) = (t : TypeForm Name) × Contains ts t × IsUnknownIn s.extensions t (plain_name_of n)
TellsAmong s ts (ReservedName e) = (t : TypeForm Name) × Contains ts t × IsReservedIn s.defined t (refused_name_of e)

-- an entity type has a type of which this holds, or an action a context
abbrev pub SomeTypeIn : List WrittenType → (TypeForm Name → Type 0) → Type 0
SomeTypeIn es holds = (e : WrittenType) × Contains es e × ((t : TypeForm Name) × Contains (types_in e.1) t × holds t)

abbrev pub SomeContext : List WrittenAction → (TypeForm Name → Type 0) → Type 0
SomeContext as_ holds = (a : WrittenAction) × Contains as_ a × holds a.1.context

-- The error tells a fault of the entity types.
abbrev pub TellsTypes : Setting → List WrittenType → AssemblyError → Type 0
TellsTypes s es OutOfMemory = Unit {0}
TellsTypes s es (DuplicateEntityType n) = StandsTwice (names_written es) (name_of n)
TellsTypes s es (DuplicateAction u) = ⊥
TellsTypes s es (CycleInActionHierarchy u) = ⊥
TellsTypes s es (ContextNotRecord u) = ⊥
TellsTypes s es (UnknownExtensionType n) = SomeTypeIn es (λ t. IsUnknownIn s.extensions t (plain_name_of n))
TellsTypes s es (ReservedName r) = SomeTypeIn es (λ t. IsReservedIn s.defined t (refused_name_of r))
    ⊎ ((is_reserved (refused_name_of r) ≡ true) × Contains (names_written es) (refused_name_of r))

-- The error tells a fault of the actions.
abbrev pub TellsActions : Setting → List WrittenAction → AssemblyError → Type 0
TellsActions s as_ OutOfMemory = Unit {0}
TellsActions s as_ (DuplicateEntityType n) = ⊥
TellsActions s as_ (DuplicateAction u) = StandsTwice (uids_written as_) (uid_of u)
TellsActions s as_ (CycleInActionHierarchy u) = Contains (uids_written as_) (uid_of u) × ActionDescends (schema_told s [] as_) (uid_of u) (uid_of u)
TellsActions s as_ (ContextNotRecord u) = (a : WrittenAction) × Contains as_ a × (a.0 ≡ uid_of u) × (is_record_type (told s a.1.context) ≡ false)
TellsActions s as_ (UnknownExtensionType n) = SomeContext as_ (λ t. IsUnknownIn s.extensions t (plain_name_of n))
TellsActions s as_ (ReservedName r) = SomeContext as_ (λ t. IsReservedIn s.defined t (refused_name_of r))
    ⊎ ((is_reserved (refused_name_of r) ≡ true) × ((a : WrittenAction) × Contains as_ a × Contains (parent_kinds a) (refused_name_of r)))

-- The error tells that one of these is repeated.
abbrev pub TellsTypeTwice : List Name → AssemblyError → Type 0
TellsTypeTwice ns OutOfMemory = Unit {0}
TellsTypeTwice ns (DuplicateEntityType n) = StandsTwice ns (name_of n)
TellsTypeTwice ns (DuplicateAction u) = ⊥
TellsTypeTwice ns (CycleInActionHierarchy u) = ⊥
TellsTypeTwice ns (ContextNotRecord u) = ⊥
TellsTypeTwice ns (UnknownExtensionType n) = ⊥
TellsTypeTwice ns (ReservedName e) = ⊥

-- The error tells that an action is repeated, or that the type of a parent is reserved.
abbrev pub TellsLines : List WrittenAction → AssemblyError → Type 0
TellsLines as_ OutOfMemory = Unit {0}
TellsLines as_ (DuplicateEntityType n) = ⊥
TellsLines as_ (DuplicateAction u) = StandsTwice (uids_written as_) (uid_of u)
TellsLines as_ (CycleInActionHierarchy u) = ⊥
TellsLines as_ (ContextNotRecord u) = ⊥
TellsLines as_ (UnknownExtensionType n) = ⊥
TellsLines as_ (ReservedName r) = (is_reserved (refused_name_of r) ≡ true) × ((a : WrittenAction) × Contains as_ a × Contains (parent_kinds a) (refused_name_of r))

-- The error tells a fault of one entity type: of a type in it, or of its name or one of these.
abbrev pub TellsType : Setting → WrittenType → List Name → AssemblyError → Type 0
TellsType s e ns f = TellsAmong s (types_in e.1) f ⊎ TellsReserved (e.0 ∷ ns) f

-- The error tells a fault of this context of the action of this uid.
abbrev pub TellsContext : Setting → Uid → TypeForm Name → AssemblyError → Type 0
TellsContext s v t OutOfMemory = Unit {0}
TellsContext s v t (DuplicateEntityType n) = ⊥
TellsContext s v t (DuplicateAction u) = ⊥
TellsContext s v t (CycleInActionHierarchy u) = ⊥
TellsContext s v t (ContextNotRecord u) = (v ≡ uid_of u) × (is_record_type (told s t) ≡ false)
TellsContext s v t (UnknownExtensionType n) = IsUnknownIn s.extensions t (plain_name_of n)
TellsContext s v t (ReservedName r) = IsReservedIn s.defined t (refused_name_of r)

-- The error tells a fault of one action: of its context, or that it descends from itself.
abbrev pub TellsAction : Setting → WrittenAction → List Uid → AssemblyError → Type 0
TellsAction s a us (CycleInActionHierarchy u) = (a.0 ≡ uid_of u) × Contains us a.0
TellsAction s a us f = TellsContext s a.0 a.1.context f

-- It is of a written type: none of the faults of common types.
abbrev pub IsOfType : ResolveError → Type 0
IsOfType resolve.OutOfMemory = Unit {0}
IsOfType (resolve.UnknownExtensionType n) = Unit {0}
IsOfType (resolve.ReservedName e) = Unit {0}
IsOfType (resolve.DuplicateCommonType n) = ⊥
IsOfType (resolve.CycleInCommonTypeReferences n) = ⊥

-- The two say the same.
abbrev pub SaysSame : ResolveError → AssemblyError → Type 0
SaysSame resolve.OutOfMemory f = f ≡ OutOfMemory
SaysSame (resolve.UnknownExtensionType n) f = f ≡ UnknownExtensionType n
SaysSame (resolve.ReservedName e) f = f ≡ ReservedName e
SaysSame (resolve.DuplicateCommonType n) f = ⊥
SaysSame (resolve.CycleInCommonTypeReferences n) f = ⊥
