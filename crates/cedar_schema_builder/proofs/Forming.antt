-- What the steps come to is what fragments have to be, and what they refuse is at fault in the fragments.
use Rattle.std.proofs.Common.{◌≡◌, List, map, None, Ok, find, refl, sym, ap, ◌∙◌, subst, ⊎_elim}
use Rattle.std.proofs.lemmas.List.Elements.{Contains-append_cases}
use Rattle.std.specs.Prelude.{Contains}
use Rattle.std.specs.List.{flat_map}
use Rattle.std.specs.Rc.{rc_str_bytes}
use Rattle.cedar_expr_model.specs.Name.{Text, Name, is_reserved}
use Rattle.cedar_expr_model.specs.Uid.{Uid}
use Rattle.cedar_expr_model.proofs.Lists.{map_has, map_from, flat_from}
use Rattle.cedar_expr_names.specs.Views.{name_of, refused_name_of, type_name_of, uid_of}
use Rattle.cedar_expr_names.specs.declared.entity.EntityType.{EntityType}
use Rattle.cedar_expr_names.specs.declared.internal_name.InternalName.{InternalName}
use Rattle.cedar_schema_model.specs.BagLaws.{HasTwice}
use Rattle.cedar_schema_model.specs.Descent.{Reaches, HasActionParent, ActionDescends}
use Rattle.cedar_schema_model.proofs.Decls.Reordered.{reaches_along}
use Rattle.cedar_schema_model.specs.Kept.{KeptType, KeptAction}
use Rattle.cedar_schema_decl.specs.Conditional.{conditional_of}
use Rattle.cedar_schema_decl.specs.Defined.{Defined}
use Rattle.cedar_schema_decl.specs.Forms.{TypeForm, EntityForm, ActionForm}
use Rattle.cedar_schema_decl.specs.Shadowing.{first_shadowing, TellsShadowing}
use Rattle.cedar_schema_decl.specs.declared.err.ShadowingError.{ShadowingError}
use Rattle.cedar_schema_decl.specs.declared.err.ShadowingError.TheVariants as shade
use Rattle.cedar_schema_fragments.specs.Marked.{HasAll}
use Rattle.cedar_schema_fragments.specs.Namespaces.{fragment_form}
use Rattle.cedar_schema_fragments.specs.Refusals.{no_type, no_action, reserved_type, Refuses}
use Rattle.cedar_schema_fragments.specs.declared.err.FragmentError.{FragmentError}
use Rattle.cedar_schema_fragments.specs.declared.err.FragmentError.TheVariants as fragment
use Rattle.cedar_schema_fragments.specs.declared.namespace_def.ValidatorSchemaFragment.{ValidatorSchemaFragment}
use Rattle.cedar_schema_builder.specs.AllResolved.{all_resolved}
use Rattle.cedar_schema_builder.specs.Gathered.{resolved_forms}
use Rattle.cedar_schema_builder.specs.WrittenNames.{names_in, entities_named}
use Rattle.cedar_schema_resolver.specs.Numbers.{StandsTwice}
use Rattle.cedar_schema_resolver.specs.Meanings.{Setting, setting}
use Rattle.cedar_schema_resolver.specs.Refusals.{extensions_of}
use Rattle.cedar_schema_assembly.specs.Told.{schema_told, entity_told, action_told, types_in}
use Rattle.cedar_schema_builder.specs.Writing.{CommonForms, EntityForms, ActionForms, commons_of, entities_of, actions_of}
use Rattle.cedar_schema_builder.specs.Faults.{of_shadowing, of_fragments}
use Rattle.cedar_schema_builder.specs.FormSteps.{AreNamesFormed, IsFaultOfSets, AreFormsOf, IsFaultOfForms}
use Rattle.cedar_schema_builder.specs.OfFragments.{Fragments, AsResolved, sets_of, commons_named, actions_named, all_of, extensions_named, HasParentIn, AreFormed, AreBuiltOfFormed, IsFaultBy}
use Rattle.cedar_schema_builder.specs.Steps.{AreAssembled}
use Rattle.cedar_schema_builder.specs.declared.err.SchemaError.{SchemaError}
use Rattle.cedar_schema_builder.specs.declared.err.SchemaError.TheVariants.{OutOfMemory, DuplicateEntityType, DuplicateCommonType, DuplicateAction, TypeNotDefined, ActionNotDefined, CycleInCommonTypeReferences, CycleInActionHierarchy, ActionEntityTypeDeclared, ContextNotRecord, ReservedName, TypeShadowing, ActionShadowing, UnknownExtensionType}
use Rattle.cedar_schema_builder.proofs.Building.{same_mapped}
use Rattle.cedar_schema_builder.proofs.Coming.{none_found, flat_seen}
use Rattle.cedar_schema_builder.proofs.ReservedWritten.{reserved_is_written, refused_is_written}
use Rattle.cedar_schema_builder.proofs.Spaces.{commons_same, entities_same, actions_same}

-- parents in what is resolved are those of the schema that is told
module _ (own : Setting) (es : EntityForms) (as_ : ActionForms) (u v : Uid) where
  pub parent_told : HasParentIn as_ u v → HasActionParent (schema_told own es as_) u v
  parent_told k = (action_told own k.0, map_has (action_told own) as_ k.0 k.1, k.2, k.3)

  pub parent_of_told : HasActionParent (schema_told own es as_) u v → HasParentIn as_ u v
  parent_of_told k =
      let a = map_from (action_told own) as_ k.0 k.1 in
      (a.0, a.1, k.2 ∙ ap (λ b. b.uid) (sym a.2), subst (λ b. Contains b.parents v) (sym a.2) k.3)

pub descends_told : (own : Setting) (es : EntityForms) (as_ : ActionForms) (u v : Uid) → Reaches (HasParentIn as_) u v → ActionDescends (schema_told own es as_) u v
descends_told own es as_ u v r = reaches_along (HasParentIn as_) (HasActionParent (schema_told own es as_)) (parent_told own es as_) u v r

pub descends_of_told : (own : Setting) (es : EntityForms) (as_ : ActionForms) (u v : Uid) → ActionDescends (schema_told own es as_) u v → Reaches (HasParentIn as_) u v
descends_of_told own es as_ u v r = reaches_along (HasActionParent (schema_told own es as_)) (HasParentIn as_) (parent_of_told own es as_) u v r

-- what is gathered
module _ (fs : Fragments) (s : Defined) where
  pub memory_of_sets : IsFaultOfSets fs s OutOfMemory
  memory_of_sets = record { each = λ n x. tt }

  pub shadowing_at_fault : (e : ShadowingError) → TellsShadowing (first_shadowing s) e → IsFaultOfSets fs s (of_shadowing e)
  shadowing_at_fault shade.OutOfMemory h = memory_of_sets
  shadowing_at_fault (shade.TypeShadowing n) h = record { each = λ none x. h }
  shadowing_at_fault (shade.ActionShadowing u) h = record { each = λ none x. h }

  pub resolving_at_fault : HasAll fs s → (e : FragmentError) → Refuses (all_resolved s fs) e → IsFaultOfSets fs s (of_fragments e)
  resolving_at_fault has fragment.OutOfMemory h = memory_of_sets
  resolving_at_fault has (fragment.TypeNotDefined c) h = record { each = λ none x. h (no_type (conditional_of c)) refl }
  resolving_at_fault has (fragment.ActionNotDefined c id) h = record { each = λ none x. h (no_action (conditional_of c, rc_str_bytes id)) refl }
  resolving_at_fault has (fragment.ReservedName e) h = record { each = λ none x. let r = refused_is_written fs s has (refused_name_of e) (h (reserved_type (refused_name_of e)) refl) in absurd (none_found is_reserved (names_in fs) none (refused_name_of e) r.0 r.1) }

  pub forms_gathered : (gs : List (ValidatorSchemaFragment InternalName EntityType)) → all_resolved s fs ≡ Ok (map (fragment_form name_of type_name_of) gs)
      → (cs : CommonForms) (es : EntityForms) (as_ : ActionForms) → cs ≡ commons_of (resolved_forms gs) → es ≡ entities_of (resolved_forms gs) → as_ ≡ actions_of (resolved_forms gs) → first_shadowing s ≡ None → AreFormsOf fs s cs es as_
  forms_gathered gs h cs es as_ c e a n =
      let same = sym (flat_seen (fragment_form name_of type_name_of) gs) in
      record {
        none_shadows = n;
        resolved = map (fragment_form name_of type_name_of) gs;
        resolves = h;
        commons = c ∙ ap commons_of same;
        entities = e ∙ ap entities_of same;
        actions = a ∙ ap actions_of same;
      }

  -- what is refused of what is gathered
  module _ (x : List Name) (cs : CommonForms) (es : EntityForms) (as_ : ActionForms) (f : AreFormsOf fs s cs es as_) (has : HasAll fs s) (none : find is_reserved (names_in fs) ≡ None) where
    abbrev C : CommonForms
    C = commons_of (all_of f.resolved)

    abbrev E : EntityForms
    E = entities_of (all_of f.resolved)

    abbrev A : ActionForms
    A = actions_of (all_of f.resolved)

    of_these : (e : SchemaError) → IsFaultOfForms s x C E A e → IsFaultBy s x fs e
    of_these OutOfMemory h = tt
    of_these (DuplicateEntityType n) h = subst (λ l. StandsTwice l (name_of n)) (entities_same s fs f.resolved f.resolves) h
    of_these (DuplicateCommonType n) h = subst (λ l. StandsTwice l (name_of n)) (commons_same s fs f.resolved f.resolves) h
    of_these (DuplicateAction u) h = subst (λ l. StandsTwice l (uid_of u)) (actions_same s fs f.resolved f.resolves) h
    of_these (TypeNotDefined c) h = absurd h
    of_these (ActionNotDefined c id) h = absurd h
    of_these (CycleInCommonTypeReferences n) h = (f.resolved, f.resolves, h)
    of_these (CycleInActionHierarchy u) h = (f.resolved, f.resolves, h)
    of_these (ActionEntityTypeDeclared n) h = absurd h
    of_these (ContextNotRecord u) h = (f.resolved, f.resolves, h)
    of_these (ReservedName e) h = let r = reserved_is_written fs s has f.resolved f.resolves (refused_name_of e) h in absurd (none_found is_reserved (names_in fs) none (refused_name_of e) r.0 r.1)
    of_these (TypeShadowing n) h = absurd h
    of_these (ActionShadowing u) h = absurd h
    of_these (UnknownExtensionType n) h = ((f.resolved, f.resolves, h.0), h.1)

    pub forms_at_fault : (e : SchemaError) → IsFaultOfForms s x cs es as_ e → IsFaultBy s x fs e
    forms_at_fault e h = of_these e (subst (λ l. IsFaultOfForms s x C E l e) f.actions (subst (λ l. IsFaultOfForms s x C l as_ e) f.entities (subst (λ l. IsFaultOfForms s x l es as_ e) f.commons h)))

-- what is assembled
module _ (x : List Name) (fs : Fragments) (n : AreNamesFormed fs) (ts : List KeptType) (ks : List KeptAction) where
  module _ (has : HasAll fs (sets_of fs)) (gs : List (List AsResolved)) (resolves : all_resolved (sets_of fs) fs ≡ Ok gs) (none_shadows : first_shadowing (sets_of fs) ≡ None) (a : AreAssembled (sets_of fs) x (commons_of (all_of gs)) (entities_of (all_of gs)) (actions_of (all_of gs)) ts ks) where
    abbrev cs : CommonForms
    cs = commons_of (all_of gs)

    abbrev es : EntityForms
    es = entities_of (all_of gs)

    abbrev us : ActionForms
    us = actions_of (all_of gs)

    abbrev own : Setting
    own = setting a.commons (sets_of fs) x

    commons_once : HasTwice (commons_named fs) → ⊥
    commons_once h = a.solved.once (subst HasTwice (sym (commons_same (sets_of fs) fs gs resolves)) h)

    types_once : HasTwice (entities_named fs) → ⊥
    types_once h = (a.types.each us).once (subst HasTwice (sym (same_mapped (entity_told own) (λ t. t.name) (λ e. e.0) (λ e. refl) es ∙ entities_same (sets_of fs) fs gs resolves)) h)

    actions_once : HasTwice (actions_named fs) → ⊥
    actions_once h = (a.actions.each es).once (subst HasTwice (sym (same_mapped (action_told own) (λ b. b.uid) (λ b. b.0) (λ b. refl) us ∙ actions_same (sets_of fs) fs gs resolves)) h)

    known : (m : Name) → Contains (extensions_named cs es us) m → Contains x m
    known m h =
        ⊎_elim
        (λ i. let p = flat_from (λ (z : Name × TypeForm Name). extensions_of z.1) cs m i in (a.solved.known p.0.0 p.0.1 p.1).each m p.2)
        (λ j. ⊎_elim
        (λ i. let p = flat_from (λ (z : Name × EntityForm Name). flat_map extensions_of (types_in z.1)) es m i in let t = flat_from extensions_of (types_in p.0.1) m p.2 in (a.types_known.each p.0 p.1 t.0 t.1).each m t.2)
        (λ i. let p = flat_from (λ (z : Uid × ActionForm Name (Name × Text)). extensions_of z.1.context) us m i in (a.contexts_known.each p.0 p.1).each m p.2)
        (Contains-append_cases (flat_map (λ (z : Name × EntityForm Name). flat_map extensions_of (types_in z.1)) es) _ m j))
        (Contains-append_cases (flat_map (λ (z : Name × TypeForm Name). extensions_of z.1) cs) _ m h)

    abbrev formed : AreFormed x fs
    formed = record {
      has_all = has;
      none_reserved = n.none_reserved;
      no_action_type = n.no_action_type;
      none_shadows = none_shadows;
      commons_once = commons_once;
      types_once = types_once;
      actions_once = actions_once;
      resolved = gs;
      resolves = resolves;
      commons = a.commons;
      solved = a.solved;
      known = known;
      contexts = a.contexts_records;
      apart = λ u r. a.apart.none es u (descends_told own es us u u r);
    }

    of_sets : AreBuiltOfFormed x fs ts ks
    of_sets = record { formed = formed; types = a.types.each us; actions = a.actions.each es }

  of_forms : (cs : CommonForms) (es : EntityForms) (as_ : ActionForms) → HasAll fs (sets_of fs) → AreFormsOf fs (sets_of fs) cs es as_ → AreAssembled (sets_of fs) x cs es as_ ts ks → AreBuiltOfFormed x fs ts ks
  of_forms cs es as_ has f a =
      of_sets has f.resolved f.resolves f.none_shadows
      (subst (λ l. AreAssembled (sets_of fs) x (commons_of (all_of f.resolved)) (entities_of (all_of f.resolved)) l ts ks) f.actions
      (subst (λ l. AreAssembled (sets_of fs) x (commons_of (all_of f.resolved)) l as_ ts ks) f.entities
      (subst (λ l. AreAssembled (sets_of fs) x l es as_ ts ks) f.commons a)))

  pub built_of_formed : (s : Defined) → s ≡ sets_of fs → (cs : CommonForms) (es : EntityForms) (as_ : ActionForms) → HasAll fs s → AreFormsOf fs s cs es as_ → AreAssembled s x cs es as_ ts ks → AreBuiltOfFormed x fs ts ks
  built_of_formed s e cs es as_ = subst (λ d. HasAll fs d → AreFormsOf fs d cs es as_ → AreAssembled d x cs es as_ ts ks → AreBuiltOfFormed x fs ts ks) (sym e) (of_forms cs es as_)
