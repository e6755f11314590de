-- What is refused of what is gathered is at fault in it.
use Rattle.std.proofs.Common.{List, [], inl, inr, ⊎_elim}
use Rattle.std.proofs.lemmas.List.Elements.{Contains-append_left, Contains-append_right}
use Rattle.std.specs.Prelude.{Contains}
use Rattle.std.specs.List.{flat_map}
use Rattle.cedar_expr_model.specs.Name.{Text, Name}
use Rattle.cedar_expr_model.specs.Uid.{Uid}
use Rattle.cedar_expr_model.proofs.Lists.{flat_has}
use Rattle.cedar_expr_names.specs.Views.{plain_name_of, refused_name_of, uid_of}
use Rattle.cedar_schema_model.specs.Reference.{meant_entity}
use Rattle.cedar_schema_model.specs.Types.{Ty}
use Rattle.cedar_schema_decl.specs.Defined.{Defined}
use Rattle.cedar_schema_decl.specs.Forms.{TypeForm, EntityForm, ActionForm}
use Rattle.cedar_schema_resolver.specs.Meanings.{Setting, setting}
use Rattle.cedar_schema_resolver.specs.Refusals.{extensions_of, IsReservedIn}
use Rattle.cedar_schema_resolver.specs.Solved.{IsSolved, TellsUnsolved}
use Rattle.cedar_schema_resolver.specs.declared.err.ResolveError.{ResolveError}
use Rattle.cedar_schema_resolver.specs.declared.err.ResolveError.TheVariants as resolve
use Rattle.cedar_schema_assembly.specs.Told.{types_in}
use Rattle.cedar_schema_assembly.specs.Refusals.{TellsTypes, TellsActions}
use Rattle.cedar_schema_assembly.specs.Seen.{parent_kinds}
use Rattle.cedar_schema_assembly.specs.declared.err.AssemblyError.{AssemblyError}
use Rattle.cedar_schema_assembly.specs.declared.err.AssemblyError.TheVariants.{OutOfMemory, DuplicateEntityType, DuplicateAction, CycleInActionHierarchy, ContextNotRecord, UnknownExtensionType, ReservedName}
use Rattle.cedar_schema_builder.specs.Writing.{CommonForms, EntityForms, ActionForms}
use Rattle.cedar_schema_builder.specs.Faults.{of_types, of_assembly}
use Rattle.cedar_schema_builder.specs.FormSteps.{IsReservedOfForms, IsFaultOfForms}
use Rattle.cedar_schema_builder.specs.OfFragments.{extensions_named}
use Rattle.cedar_schema_builder.proofs.Forming.{descends_of_told}
use Rattle.cedar_schema_builder.proofs.ReservedWritten.{meant_is_defined}

module _ (s : Defined) (x : List Name) (cs : CommonForms) (es : EntityForms) (as_ : ActionForms) where
  -- extension types
  in_common : (p : Name × TypeForm Name) → Contains cs p → (n : Name) → Contains (extensions_of p.1) n → Contains (extensions_named cs es as_) n
  in_common p h n k = Contains-append_left _ _ n (flat_has (λ (z : Name × TypeForm Name). extensions_of z.1) cs p n h k)

  in_entity : (p : Name × EntityForm Name) → Contains es p → (t : TypeForm Name) → Contains (types_in p.1) t → (n : Name) → Contains (extensions_of t) n → Contains (extensions_named cs es as_) n
  in_entity p h t i n k = Contains-append_right (flat_map (λ (z : Name × TypeForm Name). extensions_of z.1) cs) _ n
      (Contains-append_left _ _ n (flat_has (λ (z : Name × EntityForm Name). flat_map extensions_of (types_in z.1)) es p n h (flat_has extensions_of (types_in p.1) t n i k)))

  in_action : (p : Uid × ActionForm Name (Name × Text)) → Contains as_ p → (n : Name) → Contains (extensions_of p.1.context) n → Contains (extensions_named cs es as_) n
  in_action p h n k = Contains-append_right (flat_map (λ (z : Name × TypeForm Name). extensions_of z.1) cs) _ n
      (Contains-append_right (flat_map (λ (z : Name × EntityForm Name). flat_map extensions_of (types_in z.1)) es) _ n (flat_has (λ (z : Uid × ActionForm Name (Name × Text)). extensions_of z.1.context) as_ p n h k))

  -- a reserved name in a type
  in_type : (t : TypeForm Name) → ((n : Name) → Contains (extensions_of t) n → Contains (extensions_named cs es as_) n) → (n : Name) → IsReservedIn s t n → IsReservedOfForms s cs es as_ n
  in_type t inside n h = (h.0, ⊎_elim (λ k. inl (meant_is_defined s t (meant_entity n) k)) (λ k. inr (inr (inr (inside n k)))) h.1)

  pub commons_at_fault : (r : ResolveError) → TellsUnsolved s x cs r → IsFaultOfForms s x cs es as_ (of_types r)
  commons_at_fault resolve.OutOfMemory h = tt
  commons_at_fault (resolve.UnknownExtensionType n) h = (in_common h.0 h.1 (plain_name_of n) h.2.0, h.2.1)
  commons_at_fault (resolve.ReservedName e) h = in_type h.0.1 (in_common h.0 h.1) (refused_name_of e) h.2
  commons_at_fault (resolve.DuplicateCommonType n) h = h
  commons_at_fault (resolve.CycleInCommonTypeReferences n) h = h

  module _ (commons : Name → Ty) where
    abbrev own : Setting
    own = setting commons s x

    pub types_at_fault : (a : AssemblyError) → TellsTypes own es a → IsFaultOfForms s x cs es as_ (of_assembly a)
    types_at_fault OutOfMemory h = tt
    types_at_fault (DuplicateEntityType n) h = h
    types_at_fault (DuplicateAction u) h = absurd h
    types_at_fault (CycleInActionHierarchy u) h = absurd h
    types_at_fault (ContextNotRecord u) h = absurd h
    types_at_fault (UnknownExtensionType n) h = (in_entity h.0 h.1 h.2.0 h.2.1 (plain_name_of n) h.2.2.0, h.2.2.1)
    types_at_fault (ReservedName r) h =
        ⊎_elim
        (λ t. in_type t.2.0 (in_entity t.0 t.1 t.2.0 t.2.1) (refused_name_of r) t.2.2)
        (λ t. (t.0, inr (inl t.1)))
        h

    pub actions_at_fault : IsSolved own cs → (a : AssemblyError) → TellsActions own as_ a → IsFaultOfForms s x cs es as_ (of_assembly a)
    actions_at_fault solved OutOfMemory h = tt
    actions_at_fault solved (DuplicateEntityType n) h = absurd h
    actions_at_fault solved (DuplicateAction u) h = h
    actions_at_fault solved (CycleInActionHierarchy u) h = descends_of_told own [] as_ (uid_of u) (uid_of u) h.1
    actions_at_fault solved (ContextNotRecord u) h = (commons, solved, h)
    actions_at_fault solved (UnknownExtensionType n) h = (in_action h.0 h.1 (plain_name_of n) h.2.0, h.2.1)
    actions_at_fault solved (ReservedName r) h =
        ⊎_elim
        (λ t. in_type t.0.1.context (in_action t.0 t.1) (refused_name_of r) t.2)
        (λ t. (t.0, inr (inr (inl (flat_has parent_kinds as_ t.1.0 (refused_name_of r) t.1.1 t.1.2)))))
        h
