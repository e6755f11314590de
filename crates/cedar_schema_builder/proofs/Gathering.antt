-- What is gathered of fragments, or refused.
use Rattle.std.proofs.Common.{◌≡◌, List, None, Ok, refl, sym, subst, map}
use Rattle.std.specs.Rc.{rc_str_bytes}
use Rattle.cedar_expr_names.specs.Views.{name_of, refused_name_of, type_name_of, uid_of}
use Rattle.cedar_expr_names.specs.declared.entity.EntityType.{EntityType}
use Rattle.cedar_expr_names.specs.declared.internal_name.InternalName.{InternalName}
use Rattle.cedar_expr_leaves.specs.declared.conditional_name.ConditionalName.{ConditionalName}
use Rattle.cedar_schema_decl.specs.Conditional.{conditional_of}
use Rattle.cedar_schema_decl.specs.Defined.{Defined}
use Rattle.cedar_schema_decl.specs.Shadowing.{first_shadowing, TellsShadowing}
use Rattle.cedar_schema_decl.specs.declared.err.ShadowingError.{ShadowingError}
use Rattle.cedar_schema_decl.specs.declared.err.ShadowingError.TheVariants as shade
use Rattle.cedar_schema_fragments.specs.Laws.{WrittenTypesAreDeclared, WrittenActionsAreDeclared}
use Rattle.cedar_schema_fragments.specs.Marked.{HasAll}
use Rattle.cedar_schema_fragments.specs.Namespaces.{fragment_form}
use Rattle.cedar_schema_fragments.specs.Refusals.{no_type, no_action, reserved_type, Refuses}
use Rattle.cedar_schema_fragments.specs.declared.err.FragmentError.{FragmentError}
use Rattle.cedar_schema_fragments.specs.declared.err.FragmentError.TheVariants.{OutOfMemory, TypeNotDefined, ActionNotDefined, ReservedName}
use Rattle.cedar_schema_fragments.specs.declared.namespace_def.ValidatorSchemaFragment.{ValidatorSchemaFragment}
use Rattle.cedar_schema_builder.specs.AllResolved.{all_resolved}
use Rattle.cedar_schema_builder.specs.Gathered.{resolved_forms}
use Rattle.cedar_schema_builder.specs.GatheredNamed.{RefusalsNameFaults}
use Rattle.cedar_schema_builder.specs.ResolvedLaws.{ResolvedOneByOneAreWritten}
use Rattle.cedar_schema_builder.specs.Writing.{CommonForms, EntityForms, ActionForms, WritesAll, commons_of, entities_of, actions_of}
use Rattle.cedar_schema_builder.specs.Faults.{of_shadowing, of_fragments}
use Rattle.cedar_schema_builder.specs.Steps.{NamesFaultIn, AreGathered}
use Rattle.cedar_schema_builder.proofs.Naming.{memory_named}
use Rattle.cedar_schema_builder.proofs.Shadowing.{type_named, action_named}

module _ (fs : List (ValidatorSchemaFragment ConditionalName ConditionalName)) (s : Defined) (has : HasAll fs s) where
  pub shadowing_named : WrittenTypesAreDeclared → WrittenActionsAreDeclared → (e : ShadowingError) → TellsShadowing (first_shadowing s) e → NamesFaultIn fs (of_shadowing e)
  shadowing_named types actions shade.OutOfMemory h = memory_named fs
  shadowing_named types actions (shade.TypeShadowing n) h = record { each = λ x d w. type_named s d (types fs d w s has) (actions fs d w s has) (name_of n) h }
  shadowing_named types actions (shade.ActionShadowing u) h = record { each = λ x d w. action_named s d (types fs d w s has) (actions fs d w s has) (uid_of u) h }

  pub resolving_named : RefusalsNameFaults → (e : FragmentError) → Refuses (all_resolved s fs) e → NamesFaultIn fs (of_fragments e)
  resolving_named law OutOfMemory h = memory_named fs
  resolving_named law (TypeNotDefined c) h = record { each = λ x d w. law fs d w s has (no_type (conditional_of c)) (h (no_type (conditional_of c)) refl) }
  resolving_named law (ActionNotDefined c id) h = record { each = λ x d w. law fs d w s has (no_action (conditional_of c, rc_str_bytes id)) (h (no_action (conditional_of c, rc_str_bytes id)) refl) }
  resolving_named law (ReservedName e) h = record { each = λ x d w. law fs d w s has (reserved_type (refused_name_of e)) (h (reserved_type (refused_name_of e)) refl) }

  pub are_gathered : ResolvedOneByOneAreWritten → (gs : List (ValidatorSchemaFragment InternalName EntityType)) → all_resolved s fs ≡ Ok (map (fragment_form name_of type_name_of) gs)
      → (cs : CommonForms) (es : EntityForms) (as_ : ActionForms) → cs ≡ commons_of (resolved_forms gs) → es ≡ entities_of (resolved_forms gs) → as_ ≡ actions_of (resolved_forms gs) → first_shadowing s ≡ None → AreGathered fs s cs es as_
  are_gathered written gs h cs es as_ c e a n = record {
    writes = λ d w. subst (λ l. WritesAll s d l es as_) (sym c) (subst (λ l. WritesAll s d (commons_of (resolved_forms gs)) l as_) (sym e) (subst (λ l. WritesAll s d (commons_of (resolved_forms gs)) (entities_of (resolved_forms gs)) l) (sym a) (written fs d w s has gs h)));
    none_shadows = n;
  }
