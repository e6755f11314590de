-- A solution is what the declarations say, and a refusal tells a fault of theirs.
use Rattle.std.proofs.Common.{◌≡◌, List, [], ◌∷◌, map, Option, Some, None, Ok, IfOk, refl, sym, ap, ◌∙◌, subst, inl, inr, ⊎_elim}
use Rattle.std.proofs.lemmas.Bool.{true≢false}
use Rattle.std.proofs.lemmas.List.Elements.{Contains-append_left, Contains-append_right}
use Rattle.std.specs.Prelude.{Contains, is_some}
use Rattle.std.specs.List.{filter_map, flat_map}
use Rattle.cedar_expr_model.specs.Name.{Name, name_eq}
use Rattle.cedar_expr_model.proofs.Equality.{name_eq-Decides}
use Rattle.cedar_expr_model.proofs.Lists.{contains_head, contains_tail, contains_cases, contains_none, found-Decides, flat_has}
use Rattle.cedar_expr_names.specs.Views.{name_of, plain_name_of, refused_name_of}
use Rattle.cedar_schema_model.specs.BagLaws.{Uses, HasTwice, HasSchemaFault}
use Rattle.cedar_schema_model.specs.Declarations.{CommonDeclaration, Declarations, common_name, common_names, entity_names, action_uids, meant, references, references_in, extensions, extensions_in}
use Rattle.cedar_schema_model.specs.Descent.{Chain}
use Rattle.cedar_schema_model.specs.Reference.{Reference, meant_common, meant_entity}
use Rattle.cedar_schema_model.specs.Resolved.{common_of, resolved, resolved_by}
use Rattle.cedar_schema_model.specs.WellFormed.{SchemaFault, duplicate_common_type, cycle_of_common_types, reserved_name, unknown_extension_type, written_names}
use Rattle.cedar_schema_model.proofs.Named.{defined_by}
use Rattle.cedar_schema_model.proofs.Decls.Faults.{meant_is_declared}
use Rattle.cedar_schema_model.proofs.Decls.Resolved.{IsAcyclic, common_found, some_common}
use Rattle.cedar_schema_model.proofs.Decls.Schema.{kept_from, kept_has}
use Rattle.cedar_schema_decl.specs.Defined.{Defined}
use Rattle.cedar_schema_decl.specs.Forms.{TypeForm}
use Rattle.cedar_schema_decl.specs.Laws.{HasDeclared, namespace_parts, as_expr, type_told, resolved_in, ResolvedTypesAreDeclared}
use Rattle.cedar_schema_resolver.specs.Laws.{IsWrittenAs, AreWrittenAs, WritesCommons, fault_told, TellsWritten}
use Rattle.cedar_schema_resolver.specs.Meanings.{Setting, told, meant_in}
use Rattle.cedar_schema_resolver.specs.Refusals.{IsUnknownIn, IsReservedIn, TellsUntold}
use Rattle.cedar_schema_resolver.specs.Solved.{names_of, IsSolved, TellsUnsolved}
use Rattle.cedar_schema_resolver.proofs.Places.{twice_of}
use Rattle.cedar_schema_resolver.specs.Uses.{UsesIn}
use Rattle.cedar_schema_resolver.specs.declared.err.ResolveError.{ResolveError}
use Rattle.cedar_schema_resolver.specs.declared.err.ResolveError.TheVariants.{OutOfMemory, UnknownExtensionType, ReservedName, DuplicateCommonType, CycleInCommonTypeReferences}
use Rattle.cedar_schema_resolver.proofs.Inside.{is_inside}
use Rattle.cedar_schema_resolver.proofs.Unique.{declaration, is_common}

-- declarations and what writes them
module _ (law : ResolvedTypesAreDeclared) (d : Defined) where
  abbrev WritesOne : List CommonDeclaration → Name × TypeForm Name → Type 0
  WritesOne cs p = (c : CommonDeclaration) × Contains cs c × IsWrittenAs d c p

  written_from : (cs : List CommonDeclaration) (ts : List (Name × TypeForm Name)) → AreWrittenAs d cs ts → (p : Name × TypeForm Name) → Contains ts p → WritesOne cs p
  written_from [] [] w p h = absurd (contains_none p h)
  written_from [] (t ∷ ts) w p h = absurd w
  written_from (c ∷ cs) [] w p h = absurd w
  written_from (c ∷ cs) (t ∷ ts) w p h =
      contains_cases (WritesOne (c ∷ cs) p) t ts p h
      (λ e. (c, contains_head c cs, subst (IsWrittenAs d c) e w.0))
      (λ k. let r = written_from cs ts w.1 p k in (r.0, contains_tail c cs r.0 r.1, r.2))

  abbrev OneWrites : List (Name × TypeForm Name) → CommonDeclaration → Type 0
  OneWrites ts c = (p : Name × TypeForm Name) × Contains ts p × IsWrittenAs d c p

  written_to : (cs : List CommonDeclaration) (ts : List (Name × TypeForm Name)) → AreWrittenAs d cs ts → (c : CommonDeclaration) → Contains cs c → OneWrites ts c
  written_to [] [] w c h = absurd (contains_none c h)
  written_to [] (t ∷ ts) w c h = absurd w
  written_to (b ∷ cs) [] w c h = absurd w
  written_to (b ∷ cs) (t ∷ ts) w c h =
      contains_cases (OneWrites (t ∷ ts) c) b cs c h
      (λ e. (t, contains_head t ts, subst (λ a. IsWrittenAs d a t) e w.0))
      (λ k. let r = written_to cs ts w.1 c k in (r.0, contains_tail t ts r.0 r.1, r.2))

  same_names : (cs : List CommonDeclaration) (ts : List (Name × TypeForm Name)) → AreWrittenAs d cs ts → names_of ts ≡ map common_name cs
  same_names [] [] w = refl
  same_names [] (t ∷ ts) w = absurd w
  same_names (c ∷ cs) [] w = absurd w
  same_names (c ∷ cs) (t ∷ ts) w = (λ i. w.0.name i ∷ same_names cs ts w.1 i)

  module _ (e : Declarations) (ts : List (Name × TypeForm Name)) (writes : WritesCommons d e ts) where
    -- what a definition refers to
    references_same : (c : CommonDeclaration) (p : Name × TypeForm Name) → IsWrittenAs d c p → meant_in d p.1 ≡ filter_map (meant e) (references_in c.namespace c.definition)
    references_same c p w = (is_inside law d e writes.declared w.space w.form p.1 w.resolved).meant ∙ (λ i. filter_map (meant e) (references_in (w.namespace i) (w.definition i)))

    extensions_same : (c : CommonDeclaration) (p : Name × TypeForm Name) → IsWrittenAs d c p → extensions_in (as_expr p.1) ≡ extensions_in c.definition
    extensions_same c p w = (is_inside law d e writes.declared w.space w.form p.1 w.resolved).named ∙ ap extensions_in w.definition

    use_declared : (m n : Name) → UsesIn d ts m n → Uses e m n
    use_declared m n u =
        let w = written_from e.commons ts writes.commons (m, u.0) u.1 in
        let r = kept_from (meant e) (references_in w.0.namespace w.0.definition) (meant_common n) (subst (λ ms. Contains ms (meant_common n)) (references_same w.0 (m, u.0) w.2) u.2) in
        (w.0, w.1, w.2.name, (r.0, r.1, r.2))

    declared_use : (m n : Name) → Uses e m n → UsesIn d ts m n
    declared_use m n u =
        let w = written_to e.commons ts writes.commons u.0 u.1 in
        let name : w.0.0 ≡ m = w.2.name ∙ sym u.2 in (
          w.0.1,
          subst (λ k. Contains ts (k, w.0.1)) name w.1,
          subst (λ ms. Contains ms (meant_common n)) (sym (references_same u.0 w.0 w.2)) (kept_has (meant e) (references_in u.0.namespace u.0.definition) u.3.0 (meant_common n) u.3.1 u.3.2),
        )

    pub uses_same : (m n : Name) → (UsesIn d ts m n → Uses e m n) × (Uses e m n → UsesIn d ts m n)
    uses_same m n = (use_declared m n, declared_use m n)

    chain_declared : (m : Name) (zs : List Name) (n : Name) → Chain (UsesIn d ts) m zs n → Chain (Uses e) m zs n
    chain_declared m [] n c = use_declared m n c
    chain_declared m (z ∷ zs) n c = (use_declared m z c.0, chain_declared z zs n c.1)

    chain_used : (m : Name) (zs : List Name) (n : Name) → Chain (Uses e) m zs n → Chain (UsesIn d ts) m zs n
    chain_used m [] n c = declared_use m n c
    chain_used m (z ∷ zs) n c = (declared_use m z c.0, chain_used z zs n c.1)

    -- an extension type of a definition is one of the declarations
    extension_declared : (c : CommonDeclaration) (n : Name) → Contains e.commons c → Contains (extensions_in c.definition) n → Contains (extensions e) n
    extension_declared c n h k = Contains-append_left (flat_map (λ (b : CommonDeclaration). extensions_in b.definition) e.commons) _ n (flat_has (λ (b : CommonDeclaration). extensions_in b.definition) e.commons c n h k)

    unknown_declared : (x : List Name) (p : Name × TypeForm Name) (n : Name) → Contains ts p → IsUnknownIn x p.1 n → HasSchemaFault x e unknown_extension_type
    unknown_declared x p n h u =
        let w = written_from e.commons ts writes.commons p h in
        (n, extension_declared w.0 n w.1 (subst (λ ns. Contains ns n) (extensions_same w.0 p w.2) u.0), u.1)

    -- what is written
    entity_written : (n : Name) → Contains (entity_names e) n → Contains (written_names e) n
    entity_written n h = Contains-append_right (common_names e) _ n (Contains-append_left (entity_names e) _ n h)

    extension_written : (n : Name) → Contains (extensions e) n → Contains (written_names e) n
    extension_written n h =
        Contains-append_right (common_names e) _ n
        (Contains-append_right (entity_names e) _ n
        (Contains-append_right (map (λ u. u.kind) (action_uids e)) _ n
        (Contains-append_right (map (λ r. r.name) (references e)) _ n (Contains-append_left (extensions e) _ n h))))

    entity_declared : (rs : List Reference) (n : Name) → Contains (filter_map (meant e) rs) (meant_entity n) → Contains (entity_names e) n
    entity_declared rs n h =
        let r = kept_from (meant e) rs (meant_entity n) h in
        (found-Decides name_eq name_eq-Decides n (entity_names e)).0 (meant_is_declared e r.0 (meant_entity n) r.2)

    reserved_declared : (x : List Name) (p : Name × TypeForm Name) (n : Name) → Contains ts p → IsReservedIn d p.1 n → HasSchemaFault x e reserved_name
    reserved_declared x p n h u =
        let w = written_from e.commons ts writes.commons p h in (
          n,
          ⊎_elim
              (λ m. entity_written n (entity_declared (references_in w.0.namespace w.0.definition) n (subst (λ ms. Contains ms (meant_entity n)) (references_same w.0 p w.2) m)))
              (λ k. extension_written n (extension_declared w.0 n w.1 (subst (λ ns. Contains ns n) (extensions_same w.0 p w.2) k)))
              u.1,
          u.0,
        )

    same_fault : (f g : SchemaFault) → Some f ≡ Some g → f ≡ g
    same_fault f g h = cc

    pub refusals : (x : List Name) (r : ResolveError) → TellsUnsolved d x ts r → (f : SchemaFault) → fault_told r ≡ Some f → HasSchemaFault x e f
    refusals x OutOfMemory t f q = absurd (cc)
    refusals x (UnknownExtensionType n) t f q = subst (HasSchemaFault x e) (same_fault unknown_extension_type f q) (unknown_declared x t.0 (plain_name_of n) t.1 t.2)
    refusals x (ReservedName r) t f q = subst (HasSchemaFault x e) (same_fault reserved_name f q) (reserved_declared x t.0 (refused_name_of r) t.1 t.2)
    refusals x (DuplicateCommonType n) t f q = subst (HasSchemaFault x e) (same_fault duplicate_common_type f q) (subst HasTwice (same_names e.commons ts writes.commons) (twice_of (names_of ts) (name_of n) t))
    refusals x (CycleInCommonTypeReferences n) t f q = subst (HasSchemaFault x e) (same_fault cycle_of_common_types f q) (name_of n, (t.0, chain_declared (name_of n) t.0 (name_of n) t.1))

-- solutions
module _ (law : ResolvedTypesAreDeclared) (s : Setting) (e : Declarations) (ts : List (Name × TypeForm Name)) (writes : WritesCommons s.defined e ts) (solved : IsSolved s ts) where
  acyclic : IsAcyclic e
  acyclic n r = solved.apart n (r.0, chain_used law s.defined e ts writes n r.0 n r.1)

  defined : (n : Name) (o : Option CommonDeclaration) → declaration e n ≡ o → s.commons n ≡ defined_by s.commons e o
  defined n None q = solved.others n (λ h. true≢false (sym (some_common n e.commons (subst (λ ns. Contains ns n) (same_names law s.defined e.commons ts writes.commons) h)) ∙ ap is_some q))
  defined n (Some c) q =
      let k = common_found n e.commons c q in
      let w = written_to law s.defined e.commons ts writes.commons c k.1 in
      ap s.commons (k.0 ∙ sym w.2.name)
      ∙ solved.solves w.0.0 w.0.1 w.1
      ∙ subst (λ o. IfOk o (λ r. type_told s.commons s.defined r ≡ resolved_by s.commons e (namespace_parts w.2.space) (as_expr w.2.form))) w.2.resolved (law s.defined e writes.declared w.2.space w.2.form s.commons)
      ∙ (λ i. resolved_by s.commons e (w.2.namespace i) (w.2.definition i))

  pub solution : (n : Name) → s.commons n ≡ common_of e n
  solution n = is_common e acyclic s.commons (λ m. defined m (declaration e m) refl) n

  pub type_resolved : (space : Option Name) (t r : TypeForm Name) → resolved_in s.defined space t ≡ Ok r → told s r ≡ resolved e (namespace_parts space) (as_expr t)
  type_resolved space t r h =
      subst (λ o. IfOk o (λ u. type_told s.commons s.defined u ≡ resolved_by s.commons e (namespace_parts space) (as_expr t))) h (law s.defined e writes.declared space t s.commons)
      ∙ (λ i. resolved_by (λ n. solution n i) e (namespace_parts space) (as_expr t))

-- refusals of types
module _ (law : ResolvedTypesAreDeclared) (s : Setting) (e : Declarations) (has : HasDeclared s.defined e) (space : Option Name) (t r : TypeForm Name) (h : resolved_in s.defined space t ≡ Ok r) where
  entity_there : (n : Name) → Contains (meant_in s.defined r) (meant_entity n) → Contains (entity_names e) n
  entity_there n m =
      let k = kept_from (meant e) (references_in (namespace_parts space) (as_expr t)) (meant_entity n) (subst (λ ms. Contains ms (meant_entity n)) (is_inside law s.defined e has space t r h).meant m) in
      (found-Decides name_eq name_eq-Decides n (entity_names e)).0 (meant_is_declared e k.0 (meant_entity n) k.2)

  extension_there : (n : Name) → Contains (extensions_in (as_expr r)) n → Contains (extensions_in (as_expr t)) n
  extension_there n k = subst (λ ns. Contains ns n) (is_inside law s.defined e has space t r h).named k

  pub written : (f : ResolveError) → TellsUntold s r f → TellsWritten s.extensions e (as_expr t) f
  written OutOfMemory u = tt
  written (UnknownExtensionType n) u = (extension_there (plain_name_of n) u.0, u.1)
  written (ReservedName q) u = (u.0, ⊎_elim (λ m. inl (entity_there (refused_name_of q) m)) (λ k. inr (extension_there (refused_name_of q) k)) u.1)
  written (DuplicateCommonType n) u = u
  written (CycleInCommonTypeReferences n) u = u
