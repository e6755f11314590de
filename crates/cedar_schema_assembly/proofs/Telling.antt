-- A refusal of a part tells a fault of the whole.
use Rattle.std.proofs.Common.{List, [], ◌∷◌, sym, subst, inl, inr, ⊎_elim}
use Rattle.std.specs.Prelude.{Contains}
use Rattle.cedar_expr_model.specs.Name.{Name}
use Rattle.cedar_expr_model.specs.Uid.{Uid}
use Rattle.cedar_expr_model.proofs.Lists.{contains_head, contains_tail, contains_cases, contains_none, map_has}
use Rattle.cedar_expr_names.specs.Views.{plain_name_of, refused_name_of}
use Rattle.cedar_schema_decl.specs.Forms.{TypeForm}
use Rattle.cedar_schema_model.specs.Descent.{ActionDescends}
use Rattle.cedar_schema_resolver.specs.Meanings.{Setting}
use Rattle.cedar_schema_resolver.specs.Refusals.{IsUnknownIn, IsReservedIn, TellsUntold}
use Rattle.cedar_schema_resolver.specs.declared.err.ResolveError.{ResolveError}
use Rattle.cedar_schema_resolver.specs.declared.err.ResolveError.TheVariants as resolve
use Rattle.cedar_schema_assembly.specs.Told.{schema_told, types_in}
use Rattle.cedar_schema_assembly.specs.Refusals.{TellsReserved, TellsAmong, TellsTypes, TellsActions, TellsTypeTwice, TellsLines, TellsType, TellsContext, TellsAction, SaysSame}
use Rattle.cedar_schema_assembly.specs.Seen.{WrittenType, WrittenAction, names_written, uids_written, parent_kinds}
use Rattle.cedar_schema_assembly.specs.declared.err.AssemblyError.{AssemblyError}
use Rattle.cedar_schema_assembly.specs.declared.err.AssemblyError.TheVariants.{OutOfMemory, DuplicateEntityType, DuplicateAction, CycleInActionHierarchy, ContextNotRecord, UnknownExtensionType, ReservedName}

-- more of them
abbrev pub Within : {X : Type 0} → List X → List X → Type 0
Within {X} xs ys = (x : X) → Contains xs x → Contains ys x

pub untold_tells : (s : Setting) (t : TypeForm Name) (e : ResolveError) (f : AssemblyError) → TellsUntold s t e → SaysSame e f → TellsAmong s (t ∷ []) f
untold_tells s t resolve.OutOfMemory f h q = subst (TellsAmong s (t ∷ [])) (sym q) tt
untold_tells s t (resolve.UnknownExtensionType n) f h q = subst (TellsAmong s (t ∷ [])) (sym q) (t, contains_head t [], h)
untold_tells s t (resolve.ReservedName n) f h q = subst (TellsAmong s (t ∷ [])) (sym q) (t, contains_head t [], h)
untold_tells s t (resolve.DuplicateCommonType n) f h q = absurd h
untold_tells s t (resolve.CycleInCommonTypeReferences n) f h q = absurd h

pub among_more : (s : Setting) (ts us : List (TypeForm Name)) (f : AssemblyError) → Within ts us → TellsAmong s ts f → TellsAmong s us f
among_more s ts us OutOfMemory w h = tt
among_more s ts us (DuplicateEntityType n) w h = absurd h
among_more s ts us (DuplicateAction u) w h = absurd h
among_more s ts us (CycleInActionHierarchy u) w h = absurd h
among_more s ts us (ContextNotRecord u) w h = absurd h
among_more s ts us (UnknownExtensionType n) w h = (h.0, w h.0 h.1, h.2)
among_more s ts us (ReservedName e) w h = (h.0, w h.0 h.1, h.2)

pub reserved_more : (ns ms : List Name) (f : AssemblyError) → Within ns ms → TellsReserved ns f → TellsReserved ms f
reserved_more ns ms OutOfMemory w h = tt
reserved_more ns ms (DuplicateEntityType n) w h = absurd h
reserved_more ns ms (DuplicateAction u) w h = absurd h
reserved_more ns ms (CycleInActionHierarchy u) w h = absurd h
reserved_more ns ms (ContextNotRecord u) w h = absurd h
reserved_more ns ms (UnknownExtensionType n) w h = absurd h
reserved_more ns ms (ReservedName e) w h = (h.0, w (refused_name_of e) h.1)

-- one of them
pub just : {X : Type 0} (xs : List X) (x : X) → Contains xs x → Within (x ∷ []) xs
just xs x c y h = contains_cases (Contains xs y) x [] y h (λ e. subst (Contains xs) e c) (λ k. absurd (contains_none y k))

pub first_and : {X : Type 0} (x : X) (xs : List X) → Within (x ∷ []) (x ∷ xs)
first_and x xs = just (x ∷ xs) x (contains_head x xs)

pub behind : {X : Type 0} (x : X) (xs : List X) → Within xs (x ∷ xs)
behind x xs y h = contains_tail x xs y h

-- of entity types
module _ (s : Setting) (es : List WrittenType) where
  pub twice_tells : (f : AssemblyError) → TellsTypeTwice (names_written es) f → TellsTypes s es f
  twice_tells OutOfMemory h = tt
  twice_tells (DuplicateEntityType n) h = h
  twice_tells (DuplicateAction u) h = absurd h
  twice_tells (CycleInActionHierarchy u) h = absurd h
  twice_tells (ContextNotRecord u) h = absurd h
  twice_tells (UnknownExtensionType n) h = absurd h
  twice_tells (ReservedName e) h = absurd h

  among_types : (e : WrittenType) → Contains es e → (f : AssemblyError) → TellsAmong s (types_in e.1) f → TellsTypes s es f
  among_types e c OutOfMemory h = tt
  among_types e c (DuplicateEntityType n) h = absurd h
  among_types e c (DuplicateAction u) h = absurd h
  among_types e c (CycleInActionHierarchy u) h = absurd h
  among_types e c (ContextNotRecord u) h = absurd h
  among_types e c (UnknownExtensionType n) h = (e, c, h)
  among_types e c (ReservedName r) h = inl (e, c, h)

  reserved_types : (f : AssemblyError) → TellsReserved (names_written es) f → TellsTypes s es f
  reserved_types OutOfMemory h = tt
  reserved_types (DuplicateEntityType n) h = absurd h
  reserved_types (DuplicateAction u) h = absurd h
  reserved_types (CycleInActionHierarchy u) h = absurd h
  reserved_types (ContextNotRecord u) h = absurd h
  reserved_types (UnknownExtensionType n) h = absurd h
  reserved_types (ReservedName r) h = inr h

  pub type_tells : (e : WrittenType) (ns : List Name) (f : AssemblyError) → Contains es e → Within ns (names_written es) → TellsType s e ns f → TellsTypes s es f
  type_tells e ns f c w h = ⊎_elim (among_types e c f) (λ r. reserved_types f (reserved_more (e.0 ∷ ns) (names_written es) f own r)) h
    where
      own : Within (e.0 ∷ ns) (names_written es)
      own n k = contains_cases (Contains (names_written es) n) e.0 ns n k (λ q. subst (Contains (names_written es)) q (map_has (λ (e : WrittenType). e.0) es e c)) (w n)

-- of actions
pub context_tells : (s : Setting) (v : Uid) (t : TypeForm Name) (f : AssemblyError) → TellsAmong s (t ∷ []) f → TellsContext s v t f
context_tells s v t OutOfMemory h = tt
context_tells s v t (DuplicateEntityType n) h = absurd h
context_tells s v t (DuplicateAction u) h = absurd h
context_tells s v t (CycleInActionHierarchy u) h = absurd h
context_tells s v t (ContextNotRecord u) h = absurd h
context_tells s v t (UnknownExtensionType n) h = contains_cases (TellsContext s v t (UnknownExtensionType n)) t [] h.0 h.1 (λ e. subst (λ t. IsUnknownIn s.extensions t (plain_name_of n)) (sym e) h.2) (λ k. absurd (contains_none h.0 k))
context_tells s v t (ReservedName r) h = contains_cases (TellsContext s v t (ReservedName r)) t [] h.0 h.1 (λ e. subst (λ t. IsReservedIn s.defined t (refused_name_of r)) (sym e) h.2) (λ k. absurd (contains_none h.0 k))

pub action_of_context : (s : Setting) (a : WrittenAction) (us : List Uid) (f : AssemblyError) → TellsContext s a.0 a.1.context f → TellsAction s a us f
action_of_context s a us OutOfMemory h = h
action_of_context s a us (DuplicateEntityType n) h = h
action_of_context s a us (DuplicateAction u) h = h
action_of_context s a us (CycleInActionHierarchy u) h = absurd h
action_of_context s a us (ContextNotRecord u) h = h
action_of_context s a us (UnknownExtensionType n) h = h
action_of_context s a us (ReservedName r) h = h

module _ (as_ : List WrittenAction) where
  pub kinds_tell : (a : WrittenAction) → Contains as_ a → (f : AssemblyError) → TellsReserved (parent_kinds a) f → TellsLines as_ f
  kinds_tell a c OutOfMemory h = tt
  kinds_tell a c (DuplicateEntityType n) h = absurd h
  kinds_tell a c (DuplicateAction u) h = absurd h
  kinds_tell a c (CycleInActionHierarchy u) h = absurd h
  kinds_tell a c (ContextNotRecord u) h = absurd h
  kinds_tell a c (UnknownExtensionType n) h = absurd h
  kinds_tell a c (ReservedName r) h = (h.0, (a, c, h.1))

  pub lines_tell : (s : Setting) (f : AssemblyError) → TellsLines as_ f → TellsActions s as_ f
  lines_tell s OutOfMemory h = tt
  lines_tell s (DuplicateEntityType n) h = absurd h
  lines_tell s (DuplicateAction u) h = h
  lines_tell s (CycleInActionHierarchy u) h = absurd h
  lines_tell s (ContextNotRecord u) h = absurd h
  lines_tell s (UnknownExtensionType n) h = absurd h
  lines_tell s (ReservedName r) h = inr h

  pub action_tells : (s : Setting) (a : WrittenAction) (us : List Uid) (f : AssemblyError) → Contains as_ a → (Contains us a.0 → ActionDescends (schema_told s [] as_) a.0 a.0) → TellsAction s a us f → TellsActions s as_ f
  action_tells s a us OutOfMemory c d h = tt
  action_tells s a us (DuplicateEntityType n) c d h = absurd h
  action_tells s a us (DuplicateAction u) c d h = absurd h
  action_tells s a us (CycleInActionHierarchy u) c d h = subst (λ v. Contains (uids_written as_) v × ActionDescends (schema_told s [] as_) v v) h.0 (map_has (λ (a : WrittenAction). a.0) as_ a c, d h.1)
  action_tells s a us (ContextNotRecord u) c d h = (a, c, h.0, h.1)
  action_tells s a us (UnknownExtensionType n) c d h = (a, c, h)
  action_tells s a us (ReservedName r) c d h = inl (a, c, h)
