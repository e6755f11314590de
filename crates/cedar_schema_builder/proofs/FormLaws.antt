-- Fragments of which a schema is built: what they write, and that nothing is at fault in them.
use Rattle.std.proofs.Common.{◌≡◌, List, Option, Some, None, Ok, find, refl, sym, ap, ◌∙◌, subst}
use Rattle.std.proofs.lemmas.Bool.{true≢false}
use Rattle.std.proofs.lemmas.List.Elements.{Contains-append_left, Contains-append_right}
use Rattle.std.specs.Prelude.{Contains, is_some}
use Rattle.std.specs.List.{flat_map}
use Rattle.cedar_expr_model.specs.Name.{Text, Name, is_reserved}
use Rattle.cedar_expr_model.specs.Uid.{Uid}
use Rattle.cedar_expr_model.proofs.Lists.{flat_has}
use Rattle.cedar_expr_names.specs.Views.{name_of, plain_name_of, uid_of}
use Rattle.cedar_schema_model.specs.BagLaws.{HasTwice}
use Rattle.cedar_schema_model.specs.Declarations.{Declarations}
use Rattle.cedar_schema_model.specs.Descent.{Reaches}
use Rattle.cedar_schema_model.specs.Kept.{KeptType, KeptAction}
use Rattle.cedar_schema_model.specs.Contexts.{is_record_type}
use Rattle.cedar_schema_decl.specs.Forms.{TypeForm, EntityForm, ActionForm}
use Rattle.cedar_schema_decl.specs.Shadowing.{first_shadowing}
use Rattle.cedar_schema_fragments.specs.WrittenDeclarations.{AreWritten}
use Rattle.cedar_schema_builder.specs.AllResolved.{all_resolved}
use Rattle.cedar_schema_builder.specs.Checked.{is_action_word}
use Rattle.cedar_schema_builder.specs.GatheredLaws.{ReservedNamesAreFound, ActionTypesAreFound}
use Rattle.cedar_schema_builder.specs.WrittenNames.{names_in, entities_named}
use Rattle.cedar_schema_resolver.proofs.Places.{twice_of}
use Rattle.cedar_schema_resolver.specs.Meanings.{Setting, setting}
use Rattle.cedar_schema_resolver.specs.Refusals.{extensions_of}
use Rattle.cedar_schema_resolver.specs.Uses.{UsesIn}
use Rattle.cedar_schema_assembly.specs.Pieces.{AreTypesOf, AreActionsOf}
use Rattle.cedar_schema_assembly.specs.Told.{types_in}
use Rattle.cedar_schema_builder.specs.ResolvedLaws.{ResolvedFragmentsAreWritten, ResolvedDeclarationsTellTheSchema, BuiltAreWellFormed, AreTold, AreFaultless}
use Rattle.cedar_schema_builder.specs.Writing.{CommonForms, EntityForms, ActionForms, commons_of, entities_of, actions_of}
use Rattle.cedar_schema_builder.specs.Built.{AreBuiltOf}
use Rattle.cedar_schema_builder.specs.OfFragments.{Fragments, AsResolved, sets_of, all_of, extensions_named, commons_named, actions_named, HasParentIn, HasOtherContextIn, AreFormed, AreBuiltOfFormed, IsFaultInFragments}
use Rattle.cedar_schema_builder.specs.declared.err.SchemaError.{SchemaError}
use Rattle.cedar_schema_builder.specs.declared.err.SchemaError.TheVariants.{OutOfMemory, DuplicateEntityType, DuplicateCommonType, DuplicateAction, TypeNotDefined, ActionNotDefined, CycleInCommonTypeReferences, CycleInActionHierarchy, ActionEntityTypeDeclared, ContextNotRecord, ReservedName, TypeShadowing, ActionShadowing, UnknownExtensionType}
use Rattle.cedar_schema_builder.proofs.Coming.{ok_same, not_both}
use Rattle.cedar_schema_builder.proofs.Forming.{descends_of_told}
use Rattle.cedar_schema_builder.proofs.OneSolution.{told_once}
use Rattle.cedar_schema_builder.proofs.Spaces.{all_made, entities_same, actions_same}

module _ (x : List Name) (fs : Fragments) (f : AreFormed x fs) where
  abbrev cs : CommonForms
  cs = commons_of (all_of f.resolved)

  abbrev es : EntityForms
  es = entities_of (all_of f.resolved)

  abbrev us : ActionForms
  us = actions_of (all_of f.resolved)

  abbrev own : Setting
  own = setting f.commons (sets_of fs) x

  -- extension types
  known_in_entity : (e : Name × EntityForm Name) → Contains es e → (t : TypeForm Name) → Contains (types_in e.1) t → (n : Name) → Contains (extensions_of t) n → Contains x n
  known_in_entity e h t i n k = f.known n (Contains-append_right (flat_map (λ (z : Name × TypeForm Name). extensions_of z.1) cs) _ n
      (Contains-append_left _ _ n (flat_has (λ (z : Name × EntityForm Name). flat_map extensions_of (types_in z.1)) es e n h (flat_has extensions_of (types_in e.1) t n i k))))

  known_in_action : (a : Uid × ActionForm Name (Name × Text)) → Contains us a → (n : Name) → Contains (extensions_of a.1.context) n → Contains x n
  known_in_action a h n k = f.known n (Contains-append_right (flat_map (λ (z : Name × TypeForm Name). extensions_of z.1) cs) _ n
      (Contains-append_right (flat_map (λ (z : Name × EntityForm Name). flat_map extensions_of (types_in z.1)) es) _ n (flat_has (λ (z : Uid × ActionForm Name (Name × Text)). extensions_of z.1.context) us a n h k)))

  module _ (written : ResolvedFragmentsAreWritten) (found : ReservedNamesAreFound) (typed : ActionTypesAreFound) (d : Declarations) (w : AreWritten fs d) where
    pub told_so : AreTold own d cs es us
    told_so = record { writes = written fs d w (sets_of fs) f.has_all (all_of f.resolved) (all_made (sets_of fs) fs f.resolved f.resolves); solved = f.solved }

    pub faultless : AreFaultless own d es us
    faultless = record {
      types_once = λ h. f.types_once (subst HasTwice (entities_same (sets_of fs) fs f.resolved f.resolves) h);
      actions_once = λ h. f.actions_once (subst HasTwice (actions_same (sets_of fs) fs f.resolved f.resolves) h);
      apart = λ u r. f.apart u (descends_of_told own es us u u r);
      contexts = f.contexts.each;
      types_known = λ e h t i. record { each = λ n k. known_in_entity e h t i n k };
      contexts_known = λ a h. record { each = λ n k. known_in_action a h n k };
      none_shadows = f.none_shadows;
      none_reserved = λ p. true≢false (sym ((found fs d w x).1 p) ∙ ap is_some f.none_reserved);
      no_action_type = λ p. true≢false (sym ((typed fs d w x).1 p) ∙ ap is_some f.no_action_type);
    }

  -- nothing is at fault
  some_not : {A : Type 0} (o : Option A) (y : A) → o ≡ None → o ≡ Some y → ⊥
  some_not None y h k = absurd (cc)
  some_not (Some z) y h k = absurd (cc)

  same_resolved : (gs : List (List AsResolved)) → all_resolved (sets_of fs) fs ≡ Ok gs → gs ≡ f.resolved
  same_resolved gs h = ok_same gs f.resolved (sym h ∙ f.resolves)

  pub none_at_fault : (e : SchemaError) → IsFaultInFragments x fs e → e ≡ OutOfMemory
  none_at_fault OutOfMemory h = refl
  none_at_fault (DuplicateEntityType n) h = absurd (f.types_once (twice_of (entities_named fs) (name_of n) h))
  none_at_fault (DuplicateCommonType n) h = absurd (f.commons_once (twice_of (commons_named fs) (name_of n) h))
  none_at_fault (DuplicateAction u) h = absurd (f.actions_once (twice_of (actions_named fs) (uid_of u) h))
  none_at_fault (TypeNotDefined c) h = absurd (not_both (all_resolved (sets_of fs) fs) f.resolved _ f.resolves h)
  none_at_fault (ActionNotDefined c id) h = absurd (not_both (all_resolved (sets_of fs) fs) f.resolved _ f.resolves h)
  none_at_fault (CycleInCommonTypeReferences n) h = absurd (f.solved.apart (name_of n) (subst (λ gs. Reaches (UsesIn (sets_of fs) (commons_of (all_of gs))) (name_of n) (name_of n)) (same_resolved h.0 h.1) h.2))
  none_at_fault (CycleInActionHierarchy u) h = absurd (f.apart (uid_of u) (subst (λ gs. Reaches (HasParentIn (actions_of (all_of gs))) (uid_of u) (uid_of u)) (same_resolved h.0 h.1) h.2))
  none_at_fault (ActionEntityTypeDeclared n) h = absurd (some_not (find is_action_word (entities_named fs)) (name_of n) f.no_action_type h)
  none_at_fault (ContextNotRecord u) h =
      let k : HasOtherContextIn (sets_of fs) x cs us (uid_of u) = subst (λ gs. HasOtherContextIn (sets_of fs) x (commons_of (all_of gs)) (actions_of (all_of gs)) (uid_of u)) (same_resolved h.0 h.1) h.2 in
      absurd (true≢false (sym (f.contexts.each k.2.0 k.2.1) ∙ ap is_record_type (told_once (sets_of fs) f.commons k.0 x x cs f.solved k.1 k.2.0.1.context) ∙ k.2.3))
  none_at_fault (ReservedName e) h = absurd (some_not (find is_reserved (names_in fs)) _ f.none_reserved h)
  none_at_fault (TypeShadowing n) h = absurd (some_not (first_shadowing (sets_of fs)) _ f.none_shadows h)
  none_at_fault (ActionShadowing u) h = absurd (some_not (first_shadowing (sets_of fs)) _ f.none_shadows h)
  none_at_fault (UnknownExtensionType n) h =
      absurd (h.1 (f.known (plain_name_of n) (subst (λ gs. Contains (extensions_named (commons_of (all_of gs)) (entities_of (all_of gs)) (actions_of (all_of gs))) (plain_name_of n)) (same_resolved h.0.0 h.0.1) h.0.2)))

pub formed_built : ResolvedFragmentsAreWritten → ReservedNamesAreFound → ActionTypesAreFound → ResolvedDeclarationsTellTheSchema → BuiltAreWellFormed
    → (x : List Name) (fs : Fragments) (ts : List KeptType) (ks : List KeptAction) → AreBuiltOfFormed x fs ts ks → AreBuiltOf x fs ts ks
formed_built written found typed tell well x fs ts ks b =
    let f = b.formed in
    let s : Setting = setting f.commons (sets_of fs) x in
    let C = commons_of (all_of f.resolved) in
    let E = entities_of (all_of f.resolved) in
    let A = actions_of (all_of f.resolved) in
    record {
      are_well_formed = λ d w. well s d C E A (told_so x fs f written found typed d w) (faultless x fs f written found typed d w);
      types = λ d w. subst (λ t. AreTypesOf t ts) (tell s d C E A (told_so x fs f written found typed d w)) b.types;
      actions = λ d w. subst (λ t. AreActionsOf t ks) (tell s d C E A (told_so x fs f written found typed d w)) b.actions;
    }
