-- What is refused of what is gathered names what is at fault in the declarations that it writes.
use Rattle.std.proofs.Common.{List, refl, ◌∙◌, inl, inr, ⊎_elim, subst}
use Rattle.std.specs.List.{flat_map}
use Rattle.std.proofs.lemmas.List.Elements.{Contains-append_left, Contains-append_right}
use Rattle.cedar_expr_model.specs.Name.{Text, Name}
use Rattle.cedar_expr_model.specs.Uid.{Uid}
use Rattle.cedar_expr_model.proofs.Lists.{flat_has}
use Rattle.cedar_expr_names.specs.Views.{name_of, uid_of, refused_name_of}
use Rattle.cedar_schema_model.specs.Declarations.{Declarations}
use Rattle.cedar_schema_model.specs.Types.{Ty}
use Rattle.cedar_schema_decl.specs.Defined.{Defined}
use Rattle.cedar_schema_decl.specs.Forms.{ActionForm}
use Rattle.cedar_schema_fragments.specs.WrittenDeclarations.{parents_written}
use Rattle.cedar_schema_resolver.specs.Commons.{no_commons}
use Rattle.cedar_schema_resolver.specs.Meanings.{Setting, setting}
use Rattle.cedar_schema_resolver.specs.Solved.{IsSolved, TellsUnsolved, names_of}
use Rattle.cedar_schema_resolver.specs.declared.err.ResolveError.{ResolveError}
use Rattle.cedar_schema_resolver.specs.declared.err.ResolveError.TheVariants as resolve
use Rattle.cedar_schema_resolver.specs.Numbers.{StandsTwice}
use Rattle.cedar_schema_assembly.specs.Refusals.{TellsTypes, TellsActions}
use Rattle.cedar_schema_assembly.specs.declared.err.AssemblyError.{AssemblyError}
use Rattle.cedar_schema_assembly.specs.declared.err.AssemblyError.TheVariants.{OutOfMemory, DuplicateEntityType, DuplicateAction, CycleInActionHierarchy, ContextNotRecord, UnknownExtensionType, ReservedName}
use Rattle.cedar_schema_builder.specs.ResolvedNamed.{NamesThere, AreNamesOf, NamesAreDeclared, ContextsAreNamed}
use Rattle.cedar_schema_builder.specs.Writing.{CommonForms, EntityForms, ActionForms, WritesAll, names_of_entities, names_declared, names_in_action}
use Rattle.cedar_schema_builder.specs.Faults.{of_types, of_assembly}
use Rattle.cedar_schema_builder.specs.Named.{NamesFault}
use Rattle.cedar_schema_builder.specs.Steps.{NamesFaultOfWritten}

module _ (names : NamesAreDeclared) (d : Defined) (x : List Name) (cs : CommonForms) (es : EntityForms) (as_ : ActionForms) where
  abbrev Names : Declarations → AssemblyError → Type 0
  Names e a = NamesFault x e (of_assembly a)

  -- what is refused of common types
  resolved_named : (e : Declarations) (r : ResolveError) → NamesThere x e r → NamesFault x e (of_types r)
  resolved_named e resolve.OutOfMemory h = tt
  resolved_named e (resolve.UnknownExtensionType n) h = h
  resolved_named e (resolve.ReservedName q) h = h
  resolved_named e (resolve.DuplicateCommonType n) h = h
  resolved_named e (resolve.CycleInCommonTypeReferences n) h = h

  pub commons_named : (r : ResolveError) → TellsUnsolved d x cs r → NamesFaultOfWritten d x cs es as_ (of_types r)
  commons_named r h = record { each = λ e w. resolved_named e r ((names (setting no_commons d x) e cs es as_ w).commons r h) }

  module _ (commons : Name → Ty) where
    abbrev own : Setting
    own = setting commons d x

    types_there : (e : Declarations) → AreNamesOf own e cs es as_ → (a : AssemblyError) → TellsTypes own es a → Names e a
    types_there e k OutOfMemory h = tt
    types_there e k (DuplicateEntityType n) h = subst (λ l. StandsTwice l (name_of n)) k.entities h
    types_there e k (DuplicateAction u) h = absurd h
    types_there e k (CycleInActionHierarchy u) h = absurd h
    types_there e k (ContextNotRecord u) h = absurd h
    types_there e k (UnknownExtensionType n) h = k.types h.2.0 (inl (h.0, h.1, h.2.1)) (resolve.UnknownExtensionType n) h.2.2
    types_there e k (ReservedName r) h =
        ⊎_elim
        (λ t. k.types t.2.0 (inl (t.0, t.1, t.2.1)) (resolve.ReservedName r) t.2.2)
        (λ t. (k.written (refused_name_of r) (Contains-append_left _ _ _ (Contains-append_right (names_of cs) _ _ (Contains-append_left (names_of_entities es) _ _ t.1))), t.0))
        h

    pub types_named : (a : AssemblyError) → TellsTypes own es a → NamesFaultOfWritten d x cs es as_ (of_assembly a)
    types_named a h = record { each = λ e w. types_there e (names own e cs es as_ w) a h }

    module _ (contexts : ContextsAreNamed) (solved : IsSolved own cs) where
      actions_there : (e : Declarations) → WritesAll d e cs es as_ → AreNamesOf own e cs es as_ → (a : AssemblyError) → TellsActions own as_ a → Names e a
      actions_there e w k OutOfMemory h = tt
      actions_there e w k (DuplicateEntityType n) h = absurd h
      actions_there e w k (DuplicateAction u) h = subst (λ l. StandsTwice l (uid_of u)) k.actions h
      actions_there e w k (CycleInActionHierarchy u) h = k.cycles (uid_of u) h.1
      actions_there e w k (ContextNotRecord u) h = let b = contexts own e cs es as_ (record { writes = w; solved = solved }) h.0 h.1 h.3 in (b.0, b.1, b.2 ∙ h.2, b.3)
      actions_there e w k (UnknownExtensionType n) h = k.types h.0.1.context (inr (h.0, h.1, refl)) (resolve.UnknownExtensionType n) h.2
      actions_there e w k (ReservedName r) h =
          ⊎_elim
          (λ t. k.types t.0.1.context (inr (t.0, t.1, refl)) (resolve.ReservedName r) t.2)
          (λ t. (
            k.written (refused_name_of r) (Contains-append_right (names_declared cs es as_) _ _ (Contains-append_right (flat_map (λ e. parents_written e.1) es) _ _
                (flat_has (λ (a : Uid × ActionForm Name (Name × Text)). names_in_action a.1) as_ t.1.0 _ t.1.1 (Contains-append_right t.1.0.1.principals _ _ (Contains-append_right t.1.0.1.resources _ _ t.1.2))))),
            t.0,
          ))
          h

      pub actions_named : (a : AssemblyError) → TellsActions own as_ a → NamesFaultOfWritten d x cs es as_ (of_assembly a)
      actions_named a h = record { each = λ e w. actions_there e w (names own e cs es as_ w) a h }
