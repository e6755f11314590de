-- What is at fault in fragments is so in the declarations that they write, under the same name.
use Rattle.std.proofs.Common.{◌≡◌, List, [], ◌∷◌, ◌++◌, map, Ok, refl, sym, ap, ◌∙◌, subst, inl, inr, ⊎_elim}
use Rattle.std.proofs.lemmas.List.Elements.{Contains-append_cases}
use Rattle.std.proofs.lemmas.List.Folds.{flat_map-map}
use Rattle.std.specs.Prelude.{Contains}
use Rattle.std.specs.List.{flat_map}
use Rattle.std.specs.Rc.{rc_str_bytes}
use Rattle.cedar_expr_model.specs.Name.{Text, Name}
use Rattle.cedar_expr_model.specs.Uid.{Uid}
use Rattle.cedar_expr_model.proofs.Lists.{flat_from}
use Rattle.cedar_expr_names.specs.Views.{name_of, plain_name_of, refused_name_of, uid_of}
use Rattle.cedar_expr_names.specs.declared.name.Name.{Name as PlainName}
use Rattle.cedar_schema_model.specs.Declarations.{Declarations, common_name, entity_name, action_uid, common_names, entity_names, action_uids, extensions}
use Rattle.cedar_schema_decl.specs.Conditional.{conditional_of}
use Rattle.cedar_schema_decl.specs.Forms.{TypeForm, EntityForm, ActionForm}
use Rattle.cedar_schema_fragments.proofs.Wholes.{whole, wholes_are}
use Rattle.cedar_schema_fragments.specs.Laws.{WrittenTypesAreDeclared, WrittenActionsAreDeclared}
use Rattle.cedar_schema_fragments.specs.Marked.{HasAll}
use Rattle.cedar_schema_fragments.specs.Qualified.{common_qualified, entity_qualified, action_qualified}
use Rattle.cedar_schema_fragments.specs.Refusals.{no_type, no_action}
use Rattle.cedar_schema_fragments.specs.Written.{WrittenNamespace}
use Rattle.cedar_schema_fragments.specs.WrittenDeclarations.{common_declaration, entity_declaration, action_declaration, declared_in, all_forms, AreWritten}
use Rattle.cedar_schema_builder.specs.AllResolved.{all_resolved}
use Rattle.cedar_schema_builder.specs.GatheredNamed.{RefusalsNameFaults, ReservedNamesAreThere, ActionTypesAreThere}
use Rattle.cedar_schema_builder.specs.WrittenNames.{entities_of as entities_in, entities_named}
use Rattle.cedar_schema_resolver.specs.Numbers.{StandsTwice}
use Rattle.cedar_schema_resolver.specs.Commons.{no_commons}
use Rattle.cedar_schema_resolver.specs.Meanings.{Setting, setting}
use Rattle.cedar_schema_resolver.specs.Refusals.{extensions_of}
use Rattle.cedar_schema_resolver.specs.declared.err.ResolveError.TheVariants as resolve
use Rattle.cedar_schema_assembly.specs.Told.{types_in}
use Rattle.cedar_schema_builder.specs.ResolvedLaws.{ResolvedFragmentsAreWritten}
use Rattle.cedar_schema_builder.specs.ResolvedNamed.{AreNamesOf, NamesAreDeclared, ContextsAreNamed}
use Rattle.cedar_schema_builder.specs.Writing.{CommonForms, EntityForms, ActionForms, commons_of, entities_of, actions_of, WritesAll}
use Rattle.cedar_schema_builder.specs.FormLaws.{FaultsAreWritten}
use Rattle.cedar_schema_builder.specs.Named.{NamesFault}
use Rattle.cedar_schema_builder.specs.OfFragments.{Fragments, AsResolved, sets_of, commons_in, actions_in, commons_named, actions_named, all_of, extensions_named, IsFaultInFragments}
use Rattle.cedar_schema_builder.specs.declared.err.SchemaError.{SchemaError}
use Rattle.cedar_schema_builder.specs.declared.err.SchemaError.TheVariants.{OutOfMemory, DuplicateEntityType, DuplicateCommonType, DuplicateAction, TypeNotDefined, ActionNotDefined, CycleInCommonTypeReferences, CycleInActionHierarchy, ActionEntityTypeDeclared, ContextNotRecord, ReservedName, TypeShadowing, ActionShadowing, UnknownExtensionType}
use Rattle.cedar_schema_builder.proofs.Building.{same_mapped}
use Rattle.cedar_schema_builder.proofs.Coming.{map_flat}
use Rattle.cedar_schema_builder.proofs.Forming.{descends_told}
use Rattle.cedar_schema_builder.proofs.Shadowing.{type_named, action_named}
use Rattle.cedar_schema_builder.proofs.Spaces.{all_made}

-- what namespaces declare under names, as they are written and under full names
module _ {A X : Type 0} (f : Declarations → List A) (g : A → X) (h : WrittenNamespace → List X) (one : (w : WrittenNamespace) → h w ≡ map g (f (declared_in w))) where
  seen_same : (ws : List WrittenNamespace) → flat_map h ws ≡ map g (flat_map f (map declared_in ws))
  seen_same ws = go ws ∙ sym (map_flat g f (map declared_in ws) ∙ flat_map-map (λ d. map g (f d)) declared_in ws)
    where
      go : (vs : List WrittenNamespace) → flat_map h vs ≡ flat_map (λ w. map g (f (declared_in w))) vs
      go [] = refl
      go (v ∷ vs) = λ i. one v i ++ go vs i

module _ (fs : Fragments) (d : Declarations) (w : AreWritten fs d) where
  forms_are : all_forms fs ≡ map whole w.namespaces
  forms_are = wholes_are w.namespaces (all_forms fs) w.qualifies

  commons_are : commons_named fs ≡ common_names d
  commons_are =
      ap (flat_map commons_in) forms_are
      ∙ flat_map-map commons_in whole w.namespaces
      ∙ seen_same (λ (e : Declarations). e.commons) common_name (λ v. commons_in (whole v))
      (λ v. same_mapped (common_qualified v.namespace) (λ c. c.0) (λ c. (common_qualified v.namespace c).0) (λ c. refl) v.commons ∙ sym (same_mapped (common_declaration v.namespace) common_name (λ c. (common_qualified v.namespace c).0) (λ c. refl) v.commons)) w.namespaces
      ∙ ap common_names (sym w.declares)

  entities_are : entities_named fs ≡ entity_names d
  entities_are =
      ap (flat_map entities_in) forms_are
      ∙ flat_map-map entities_in whole w.namespaces
      ∙ seen_same (λ (e : Declarations). e.entities) entity_name (λ v. entities_in (whole v))
      (λ v. same_mapped (entity_qualified v.namespace) (λ t. t.0) (λ t. (entity_qualified v.namespace t).0) (λ t. refl) v.entities ∙ sym (same_mapped (entity_declaration v.namespace) entity_name (λ t. (entity_qualified v.namespace t).0) (λ t. refl) v.entities)) w.namespaces
      ∙ ap entity_names (sym w.declares)

  actions_are : actions_named fs ≡ action_uids d
  actions_are =
      ap (flat_map actions_in) forms_are
      ∙ flat_map-map actions_in whole w.namespaces
      ∙ seen_same (λ (e : Declarations). e.actions) action_uid (λ v. actions_in (whole v))
      (λ v. same_mapped (action_qualified v.namespace) (λ a. a.0) (λ a. (action_qualified v.namespace a).0) (λ a. refl) v.actions ∙ sym (same_mapped (action_declaration v.namespace) action_uid (λ a. (action_qualified v.namespace a).0) (λ a. refl) v.actions)) w.namespaces
      ∙ ap action_uids (sym w.declares)

module _ (refusals : RefusalsNameFaults) (reserved : ReservedNamesAreThere) (typed : ActionTypesAreThere) (types : WrittenTypesAreDeclared) (actions : WrittenActionsAreDeclared) (written : ResolvedFragmentsAreWritten) (names : NamesAreDeclared) (contexts : ContextsAreNamed)
    (x : List Name) (fs : Fragments) (has : HasAll fs (sets_of fs)) (d : Declarations) (w : AreWritten fs d) where
  module _ (gs : List (List AsResolved)) (h : all_resolved (sets_of fs) fs ≡ Ok gs) where
    abbrev cs : CommonForms
    cs = commons_of (all_of gs)

    abbrev es : EntityForms
    es = entities_of (all_of gs)

    abbrev us : ActionForms
    us = actions_of (all_of gs)

    abbrev bare : Setting
    bare = setting no_commons (sets_of fs) x

    writes : WritesAll (sets_of fs) d cs es us
    writes = written fs d w (sets_of fs) has (all_of gs) (all_made (sets_of fs) fs gs h)

    are_names : AreNamesOf bare d cs es us
    are_names = names bare d cs es us writes

    extension_there : (n : PlainName) → Contains (extensions_named cs es us) (plain_name_of n) → (Contains x (plain_name_of n) → ⊥) → Contains (extensions d) (plain_name_of n) × (Contains x (plain_name_of n) → ⊥)
    extension_there n c out =
        ⊎_elim
        (λ i. let p = flat_from (λ (z : Name × TypeForm Name). extensions_of z.1) cs (plain_name_of n) i in are_names.commons (resolve.UnknownExtensionType n) (p.0, p.1, (p.2, out)))
        (λ j. ⊎_elim
        (λ i. let p = flat_from (λ (z : Name × EntityForm Name). flat_map extensions_of (types_in z.1)) es (plain_name_of n) i in
        let t = flat_from extensions_of (types_in p.0.1) (plain_name_of n) p.2 in
        are_names.types t.0 (inl (p.0, p.1, t.1)) (resolve.UnknownExtensionType n) (t.2, out))
        (λ i. let p = flat_from (λ (z : Uid × ActionForm Name (Name × Text)). extensions_of z.1.context) us (plain_name_of n) i in are_names.types p.0.1.context (inr (p.0, p.1, refl)) (resolve.UnknownExtensionType n) (p.2, out))
        (Contains-append_cases (flat_map (λ (z : Name × EntityForm Name). flat_map extensions_of (types_in z.1)) es) _ (plain_name_of n) j))
        (Contains-append_cases (flat_map (λ (z : Name × TypeForm Name). extensions_of z.1) cs) _ (plain_name_of n) c)

  fault_named : (e : SchemaError) → IsFaultInFragments x fs e → NamesFault x d e
  fault_named OutOfMemory h = tt
  fault_named (DuplicateEntityType n) h = subst (λ l. StandsTwice l (name_of n)) (entities_are fs d w) h
  fault_named (DuplicateCommonType n) h = subst (λ l. StandsTwice l (name_of n)) (commons_are fs d w) h
  fault_named (DuplicateAction u) h = subst (λ l. StandsTwice l (uid_of u)) (actions_are fs d w) h
  fault_named (TypeNotDefined c) h = refusals fs d w (sets_of fs) has (no_type (conditional_of c)) h
  fault_named (ActionNotDefined c id) h = refusals fs d w (sets_of fs) has (no_action (conditional_of c, rc_str_bytes id)) h
  fault_named (CycleInCommonTypeReferences n) h = (are_names h.0 h.1).commons (resolve.CycleInCommonTypeReferences n) h.2
  fault_named (CycleInActionHierarchy u) h = (are_names h.0 h.1).cycles (uid_of u) (descends_told (bare h.0 h.1) (es h.0 h.1) (us h.0 h.1) (uid_of u) (uid_of u) h.2)
  fault_named (ActionEntityTypeDeclared n) h = typed fs d w (name_of n) h
  fault_named (ContextNotRecord u) h =
      let k = h.2 in
      let b = contexts (setting k.0 (sets_of fs) x) d (cs h.0 h.1) (es h.0 h.1) (us h.0 h.1) (record { writes = writes h.0 h.1; solved = k.1 }) k.2.0 k.2.1 k.2.3 in
      (b.0, b.1, b.2 ∙ k.2.2, b.3)
  fault_named (ReservedName e) h = reserved fs d w (refused_name_of e) h
  fault_named (TypeShadowing n) h = type_named (sets_of fs) d (types fs d w (sets_of fs) has) (actions fs d w (sets_of fs) has) (name_of n) h
  fault_named (ActionShadowing u) h = action_named (sets_of fs) d (types fs d w (sets_of fs) has) (actions fs d w (sets_of fs) has) (uid_of u) h
  fault_named (UnknownExtensionType n) h = extension_there h.0.0 h.0.1 n h.0.2 h.1

pub faults_written : RefusalsNameFaults → ReservedNamesAreThere → ActionTypesAreThere → WrittenTypesAreDeclared → WrittenActionsAreDeclared → ResolvedFragmentsAreWritten → NamesAreDeclared → ContextsAreNamed → FaultsAreWritten
faults_written refusals reserved typed types actions written names contexts x fs has e h =
    record { each = λ d w. fault_named refusals reserved typed types actions written names contexts x fs has d w e h }
