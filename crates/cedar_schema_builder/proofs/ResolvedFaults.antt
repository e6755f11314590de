-- What is wrong with what is resolved is a fault of the declarations.
use Rattle.std.proofs.Common.{◌≡◌, false, ◌++◌, map, Some, sym, ap, ◌∙◌, subst, ⊎_elim}
use Rattle.std.specs.Prelude.{Contains}
use Rattle.std.specs.List.{flat_map}
use Rattle.std.proofs.lemmas.List.Elements.{Contains-append_left, Contains-append_right, Contains-append_cases}
use Rattle.cedar_expr_model.specs.Name.{Text, Name}
use Rattle.cedar_expr_model.specs.Uid.{Uid}
use Rattle.cedar_expr_model.proofs.Lists.{map_has, map_from, flat_from}
use Rattle.cedar_expr_names.specs.Views.{name_of, plain_name_of, refused_name_of}
use Rattle.cedar_schema_model.specs.BagLaws.{HasTwice, HasParentAction, HasSchemaFault}
use Rattle.cedar_schema_model.specs.Schema.{Action}
use Rattle.cedar_schema_model.specs.Reference.{Namespace}
use Rattle.cedar_schema_model.specs.Declarations.{TypeExpr, EntityDeclaration, ActionDeclaration, Declarations, entity_name, action_uid, common_names, entity_names, action_uids, parent_meant, extensions_in, references, extensions}
use Rattle.cedar_schema_model.specs.Declarations as written
use Rattle.cedar_schema_model.specs.Descent.{HasActionParent, ActionDescends}
use Rattle.cedar_schema_model.specs.Resolved.{entity_meant}
use Rattle.cedar_schema_model.specs.WellFormed.{SchemaFault, duplicate_common_type, cycle_of_common_types, reserved_name, shadowing, unknown_extension_type, context_not_record, becomes_record, written_names}
use Rattle.cedar_schema_model.proofs.Decls.Faults.{schema_fault-Decides}
use Rattle.cedar_schema_model.proofs.Decls.Named.{entity_declared, parent_declared}
use Rattle.cedar_schema_model.proofs.Decls.Reordered.{reaches_along}
use Rattle.cedar_schema_model.proofs.Decls.Schema as schema
use Rattle.cedar_schema_model.specs.Contexts.{is_record_type, ContextsBecomeRecords}
use Rattle.cedar_schema_decl.specs.Forms.{TypeForm, EntityForm, ActionForm}
use Rattle.cedar_schema_decl.specs.Laws.{NamesMeanReferences, RefusedWhereUndeclared}
use Rattle.cedar_schema_fragments.specs.Laws.{ShadowingIsDeclared}
use Rattle.cedar_schema_fragments.specs.WrittenDeclarations.{parents_written, as_uid}
use Rattle.cedar_schema_resolver.proofs.Places.{twice_of}
use Rattle.cedar_schema_resolver.specs.Laws.{SolvedTypesAreResolved, RefusalsAreWritten, TellsWritten, fault_told}
use Rattle.cedar_schema_resolver.specs.Meanings.{Setting, told}
use Rattle.cedar_schema_resolver.specs.Refusals.{TellsUntold}
use Rattle.cedar_schema_resolver.specs.declared.err.ResolveError.{ResolveError}
use Rattle.cedar_schema_resolver.specs.declared.err.ResolveError.TheVariants.{OutOfMemory, UnknownExtensionType, ReservedName, DuplicateCommonType, CycleInCommonTypeReferences}
use Rattle.cedar_schema_assembly.specs.Told.{action_told, schema_told, types_in}
use Rattle.cedar_schema_builder.specs.ResolvedLaws.{AreTold, Wrong, type_twice, action_twice, action_below_itself, action_type, reserved_there, shadowing_there, fault_of, IsWrong, StandsIn}
use Rattle.cedar_schema_builder.specs.ResolvedNamed.{NamesThere}
use Rattle.cedar_schema_builder.specs.Writing.{CommonForms, EntityForms, ActionForms, WritesAll, names_of_entities, uids_of_actions, names_declared, names_in_action, names_referred}
use Rattle.cedar_schema_builder.proofs.ResolvedComing.{in_whose_place}
use Rattle.cedar_schema_builder.proofs.Written.{TypeWritten, told_is, untold_is, MeansEntity, MeansAction, EntityStands, ActionStands}
use Rattle.cedar_schema_builder.proofs.Meant.{entity_written, action_written, same_commons, same_entities, same_actions, extension_of_entity, extension_of_action}

-- written names
module _ (d : Declarations) where
  pub common_is_written : (n : Name) → Contains (common_names d) n → Contains (written_names d) n
  common_is_written n h = Contains-append_left (common_names d) _ n h

  pub entity_is_written : (n : Name) → Contains (entity_names d) n → Contains (written_names d) n
  entity_is_written n h = Contains-append_right (common_names d) _ n (Contains-append_left (entity_names d) _ n h)

  pub kind_is_written : (n : Name) → Contains (map (λ u. u.kind) (action_uids d)) n → Contains (written_names d) n
  kind_is_written n h = Contains-append_right (common_names d) _ n (Contains-append_right (entity_names d) _ n (Contains-append_left (map (λ u. u.kind) (action_uids d)) _ n h))

  pub extension_is_written : (n : Name) → Contains (extensions d) n → Contains (written_names d) n
  extension_is_written n h =
      Contains-append_right (common_names d) _ n
      (Contains-append_right (entity_names d) _ n
      (Contains-append_right (map (λ u. u.kind) (action_uids d)) _ n (Contains-append_right (map (λ r. r.name) (references d)) _ n (Contains-append_left (extensions d) _ n h))))

  meant_is_written : (ns : Namespace) (w n : Name) → entity_meant d ns w ≡ Some n → Contains (written_names d) n
  meant_is_written ns w n e = entity_is_written n (subst (λ l. Contains l n) (schema.same_types d) (entity_declared d ns w n e))

  parent_is_written : (ns : Namespace) (w v : Uid) → parent_meant d ns w ≡ Some v → Contains (written_names d) v.kind
  parent_is_written ns w v e = kind_is_written v.kind (map_has (λ u. u.kind) (action_uids d) v (subst (λ l. Contains l v) (schema.same_actions d) (parent_declared d ns w v e)))

module _ (names : NamesMeanReferences) (refused : RefusedWhereUndeclared) (s : Setting) (d : Declarations) (cs : CommonForms) (es : EntityForms) (as_ : ActionForms) (w : WritesAll s.defined d cs es as_) where
  entity_at : (p : Name × EntityForm Name) → Contains es p → (e : EntityDeclaration) × Contains d.entities e × EntityStands s.defined d e p
  entity_at = entity_written names refused s.defined d cs es as_ w

  action_at : (p : Uid × ActionForm Name (Name × Text)) → Contains as_ p → (a : ActionDeclaration) × Contains d.actions a × ActionStands s.defined d a p
  action_at = action_written names refused s.defined d cs es as_ w

  uids_same : uids_of_actions as_ ≡ action_uids d
  uids_same = same_actions names refused s.defined d cs es as_ w

  names_same : names_of_entities es ≡ entity_names d
  names_same = same_entities names refused s.defined d cs es as_ w

  -- a parent of an action that is told is a parent of the declared one
  pub parent_declares : (u v : Uid) → HasActionParent (schema_told s es as_) u v → HasParentAction d u v
  parent_declares u v h =
      let p = map_from (action_told s) as_ h.0 h.1 in
      let a = action_at p.0 p.1 in
      let q = map_from as_uid p.0.1.parents v (subst (λ (k : Action). Contains k.parents v) (sym p.2) h.3) in
      let r = in_whose_place (MeansAction d a.0.namespace) a.0.parents p.0.1.parents a.2.parents q.0 q.1 in
      (a.0, a.1, h.2 ∙ ap (λ (k : Action). k.uid) (sym p.2) ∙ a.2.uid, (r.0, r.1, r.2 ∙ ap Some q.2))

  cycle_declared : (u : Uid) → ActionDescends (schema_told s es as_) u u → HasSchemaFault s.extensions d (fault_of action_below_itself)
  cycle_declared u h = (u, reaches_along (HasActionParent (schema_told s es as_)) (HasParentAction d) parent_declares u u h)

  -- reserved names
  parent_named : (n : Name) → Contains (flat_map (λ (e : Name × EntityForm Name). parents_written e.1) es) n → Contains (written_names d) n
  parent_named n h =
      let p = flat_from (λ (e : Name × EntityForm Name). parents_written e.1) es n h in
      let e = entity_at p.0 p.1 in
      let r = in_whose_place (MeansEntity d e.0.namespace) e.0.parents (parents_written p.0.1) e.2.parents n p.2 in
      meant_is_written d e.0.namespace r.0 n r.2

  in_action_named : (n : Name) → Contains (flat_map (λ (a : Uid × ActionForm Name (Name × Text)). names_in_action a.1) as_) n → Contains (written_names d) n
  in_action_named n h =
      let p = flat_from (λ (a : Uid × ActionForm Name (Name × Text)). names_in_action a.1) as_ n h in
      let a = action_at p.0 p.1 in
      ⊎_elim
      (λ i. let r = in_whose_place (MeansEntity d a.0.namespace) a.0.principals p.0.1.principals a.2.principals n i in meant_is_written d a.0.namespace r.0 n r.2)
      (λ i. ⊎_elim
      (λ j. let r = in_whose_place (MeansEntity d a.0.namespace) a.0.resources p.0.1.resources a.2.resources n j in meant_is_written d a.0.namespace r.0 n r.2)
      (λ j. let q = map_from (λ (x : Name × Text). x.0) p.0.1.parents n j in
      let r = in_whose_place (MeansAction d a.0.namespace) a.0.parents p.0.1.parents a.2.parents q.0 q.1 in
      subst (Contains (written_names d)) q.2 (parent_is_written d a.0.namespace r.0 (as_uid q.0) r.2))
      (Contains-append_cases p.0.1.resources _ n i))
      (Contains-append_cases p.0.1.principals _ n p.2)

  declared_named : (n : Name) → Contains (names_declared cs es as_) n → Contains (written_names d) n
  declared_named n h =
      ⊎_elim
      (λ i. common_is_written d n (subst (λ l. Contains l n) (same_commons names refused s.defined d cs es as_ w) i))
      (λ i. ⊎_elim
      (λ j. entity_is_written d n (subst (λ l. Contains l n) names_same j))
      (λ j. kind_is_written d n (subst (λ l. Contains (map (λ u. u.kind) l) n) uids_same j))
      (Contains-append_cases (names_of_entities es) _ n i))
      (Contains-append_cases _ _ n h)

  pub named : (n : Name) → Contains (names_declared cs es as_ ++ names_referred es as_) n → Contains (written_names d) n
  named n h = ⊎_elim (λ i. declared_named n i) (λ i. ⊎_elim (λ j. parent_named n j) (λ j. in_action_named n j) (Contains-append_cases _ _ n i)) (Contains-append_cases (names_declared cs es as_) _ n h)

  pub wrong_is_fault : ShadowingIsDeclared → (k : Wrong) → IsWrong s cs es as_ k → HasSchemaFault s.extensions d (fault_of k)
  wrong_is_fault law type_twice h = subst HasTwice names_same h
  wrong_is_fault law action_twice h = subst HasTwice uids_same h
  wrong_is_fault law action_below_itself h = cycle_declared h.0 h.1
  wrong_is_fault law action_type h =
      let t = map_from entity_name d.entities h.0 (subst (λ l. Contains l h.0) names_same h.1) in
      (t.0, t.1, h.2 ∙ ap (λ (n : Name). n.base) (sym t.2))
  wrong_is_fault law reserved_there h = (h.0, named h.0 h.1, h.2)
  wrong_is_fault law shadowing_there h = (schema_fault-Decides s.extensions d shadowing).0 (sym (law s.defined d w.commons.declared w.declared) ∙ h)

  -- types that aren't told
  same_fault : (f g : SchemaFault) → Some f ≡ Some g → f ≡ g
  same_fault f g e = cc

  named_fault : (r : ResolveError) → NamesThere s.extensions d r → (f : SchemaFault) → fault_told r ≡ Some f → HasSchemaFault s.extensions d f
  named_fault OutOfMemory h f e = absurd (cc)
  named_fault (UnknownExtensionType n) h f e = subst (HasSchemaFault s.extensions d) (same_fault unknown_extension_type f e) (plain_name_of n, h.0, h.1)
  named_fault (ReservedName r) h f e = subst (HasSchemaFault s.extensions d) (same_fault reserved_name f e) (refused_name_of r, h.0, h.1)
  named_fault (DuplicateCommonType n) h f e = subst (HasSchemaFault s.extensions d) (same_fault duplicate_common_type f e) (twice_of (common_names d) (name_of n) h)
  named_fault (CycleInCommonTypeReferences n) h f e = subst (HasSchemaFault s.extensions d) (same_fault cycle_of_common_types f e) (name_of n, h)

  pub untold_named : (t : TypeExpr) → ((n : Name) → Contains (extensions_in t) n → Contains (extensions d) n) → (r : ResolveError) → TellsWritten s.extensions d t r → NamesThere s.extensions d r
  untold_named t inside OutOfMemory u = tt
  untold_named t inside (UnknownExtensionType n) u = (inside (plain_name_of n) u.0, u.1)
  untold_named t inside (ReservedName n) u = (⊎_elim (λ i. entity_is_written d (refused_name_of n) i) (λ i. extension_is_written d (refused_name_of n) (inside (refused_name_of n) i)) u.1, u.0)
  untold_named t inside (DuplicateCommonType n) u = absurd u
  untold_named t inside (CycleInCommonTypeReferences n) u = absurd u

  module _ (law : RefusalsAreWritten) (r : ResolveError) where
    untold_in_entity : (p : Name × EntityForm Name) → Contains es p → (t : TypeForm Name) → Contains (types_in p.1) t → TellsUntold s t r → NamesThere s.extensions d r
    untold_in_entity p h t i u =
        let b = entity_at p h in
        let x = in_whose_place (TypeWritten s.defined b.0.namespace) (written.types_in b.0.kind) (types_in p.1) b.2.types t i in
        untold_named x.0 (λ n k. extension_of_entity d b.0 b.1 x.0 x.1 n k) r (untold_is law s d w.commons.declared b.0.namespace x.0 t x.2 r u)

    untold_in_action : (p : Uid × ActionForm Name (Name × Text)) → Contains as_ p → TellsUntold s p.1.context r → NamesThere s.extensions d r
    untold_in_action p h u =
        let a = action_at p h in
        untold_named a.0.context (λ n k. extension_of_action d a.0 a.1 n k) r (untold_is law s d w.commons.declared a.0.namespace a.0.context p.1.context a.2.context r u)

    pub untold_is_named : (t : TypeForm Name) → StandsIn es as_ t → TellsUntold s t r → NamesThere s.extensions d r
    untold_is_named t h u = ⊎_elim (λ k. untold_in_entity k.0 k.1 t k.2 u) (λ k. untold_in_action k.0 k.1 (subst (λ x. TellsUntold s x r) (sym k.2) u)) h

    pub untold_is_fault : (f : SchemaFault) → fault_told r ≡ Some f → (t : TypeForm Name) → StandsIn es as_ t → TellsUntold s t r → HasSchemaFault s.extensions d f
    untold_is_fault f e t h u = named_fault r (untold_is_named t h u) f e

-- contexts
module _ (names : NamesMeanReferences) (refused : RefusedWhereUndeclared) (types : SolvedTypesAreResolved) (becomes : ContextsBecomeRecords) (s : Setting) (d : Declarations) (cs : CommonForms) (es : EntityForms) (as_ : ActionForms) (t : AreTold s d cs es as_) where
  pub commons_once : HasTwice (common_names d) → ⊥
  commons_once h = t.solved.once (subst HasTwice (sym (same_commons names refused s.defined d cs es as_ t.writes)) h)

  pub context_is : (a : ActionDeclaration) (p : Uid × ActionForm Name (Name × Text)) → ActionStands s.defined d a p → becomes_record d a ≡ is_record_type (told s p.1.context)
  context_is a p k = becomes d commons_once a ∙ ap is_record_type (sym (told_is types s d cs t.writes.commons t.solved a.namespace a.context p.1.context k.context))

  pub context_is_named : (p : Uid × ActionForm Name (Name × Text)) → Contains as_ p → is_record_type (told s p.1.context) ≡ false → (b : ActionDeclaration) × Contains d.actions b × (action_uid b ≡ p.0) × (becomes_record d b ≡ false)
  context_is_named p h e = let a = action_written names refused s.defined d cs es as_ t.writes p h in (a.0, a.1, sym a.2.uid, context_is a.0 p a.2 ∙ e)

  pub context_is_fault : (p : Uid × ActionForm Name (Name × Text)) → Contains as_ p → is_record_type (told s p.1.context) ≡ false → HasSchemaFault s.extensions d context_not_record
  context_is_fault p h e = let a = context_is_named p h e in (a.0, a.1, a.3)
