-- Declarations have the same faults by any list of the same extension types.
use Rattle.std.proofs.Common.{◌≡◌, Bool, true, false, List, [], ◌∷◌, map, refl, sym, ◌∙◌, subst}
use Rattle.std.proofs.lemmas.Bool.{true≢false}
use Rattle.std.specs.Bool.{Decides}
use Rattle.cedar_expr_model.specs.Name.{Name}
use Rattle.cedar_expr_names.specs.Views.{plain_name_of}
use Rattle.cedar_schema_model.specs.BagLaws.{HasSchemaFault}
use Rattle.cedar_schema_model.specs.Declarations.{Declarations}
use Rattle.cedar_schema_model.specs.WellFormed.{SchemaFault, duplicate_entity_type, duplicate_common_type, duplicate_action, undeclared_type, undeclared_action, cycle_of_common_types, cycle_of_actions, action_as_entity_type, context_not_record, reserved_name, shadowing, unknown_extension_type, unresolved_external, has_schema_fault, IsWellFormed}
use Rattle.cedar_schema_model.proofs.Decls.Faults.{schema_fault-Decides}
use Rattle.cedar_schema_model.specs.Types.{Ty}
use Rattle.cedar_schema_model.specs.Kept.{KeptType, KeptAction}
use Rattle.cedar_schema_decl.specs.Defined.{Defined}
use Rattle.cedar_schema_decl.specs.Forms.{EntityForm, standard_form, enumerated_form, external_form}
use Rattle.cedar_schema_fragments.specs.WrittenDeclarations.{parents_written}
use Rattle.cedar_schema_resolver.specs.Meanings.{setting}
use Rattle.cedar_schema_resolver.specs.Solved.{IsSolved}
use Rattle.cedar_schema_assembly.specs.Pieces.{AreTypesOf, AreActionsOf}
use Rattle.cedar_schema_assembly.specs.Told.{kind_told, entity_told, action_told, schema_told}
use Rattle.cedar_schema_assembly.specs.Lists.{IsSetOf}
use Rattle.cedar_schema_builder.specs.Writing.{CommonForms, EntityForms, ActionForms, commons_of, entities_of, actions_of}
use Rattle.cedar_schema_builder.specs.Extensions.{ExtensionTypesAreASet}
use Rattle.cedar_schema_builder.specs.Named.{NamesFault}
use Rattle.cedar_schema_builder.specs.OfFragments.{Fragments, sets_of, all_of, AreFormed, schema_formed, AreBuiltOfFormed, IsFaultInFragments}
use Rattle.cedar_schema_builder.specs.declared.err.SchemaError.{SchemaError}
use Rattle.cedar_schema_builder.specs.declared.err.SchemaError.TheVariants.{OutOfMemory, DuplicateEntityType, DuplicateCommonType, DuplicateAction, TypeNotDefined, ActionNotDefined, CycleInCommonTypeReferences, CycleInActionHierarchy, ActionEntityTypeDeclared, ContextNotRecord, ReservedName, TypeShadowing, ActionShadowing, UnknownExtensionType}

fault_on : (x y : List Name) → IsSetOf x y → (d : Declarations) (f : SchemaFault) → HasSchemaFault x d f → HasSchemaFault y d f
fault_on x y s d duplicate_entity_type h = h
fault_on x y s d duplicate_common_type h = h
fault_on x y s d duplicate_action h = h
fault_on x y s d undeclared_type h = h
fault_on x y s d undeclared_action h = h
fault_on x y s d cycle_of_common_types h = h
fault_on x y s d cycle_of_actions h = h
fault_on x y s d action_as_entity_type h = h
fault_on x y s d context_not_record h = h
fault_on x y s d reserved_name h = h
fault_on x y s d shadowing h = h
fault_on x y s d unknown_extension_type h = (h.0, h.1, λ c. h.2 (s.only h.0 c))
fault_on x y s d unresolved_external h = h

name_on : (x y : List Name) → IsSetOf x y → (d : Declarations) (e : SchemaError) → NamesFault x d e → NamesFault y d e
name_on x y s d OutOfMemory h = h
name_on x y s d (DuplicateEntityType n) h = h
name_on x y s d (DuplicateCommonType n) h = h
name_on x y s d (DuplicateAction u) h = h
name_on x y s d (TypeNotDefined c) h = h
name_on x y s d (ActionNotDefined c id) h = h
name_on x y s d (CycleInCommonTypeReferences n) h = h
name_on x y s d (CycleInActionHierarchy u) h = h
name_on x y s d (ActionEntityTypeDeclared n) h = h
name_on x y s d (ContextNotRecord u) h = h
name_on x y s d (ReservedName e) h = h
name_on x y s d (TypeShadowing n) h = h
name_on x y s d (ActionShadowing u) h = h
name_on x y s d (UnknownExtensionType n) h = (h.0, λ c. h.1 (s.only (plain_name_of n) c))

turned : (x y : List Name) → IsSetOf x y → IsSetOf y x
turned x y s = record { only = s.all; all = s.only }

not_there : (b : Bool) (P : Type 0) → Decides b P → (P → ⊥) → b ≡ false
not_there true P d n = absurd (n (d.0 refl))
not_there false P d n = refl

well_on : (x y : List Name) → IsSetOf x y → (d : Declarations) → IsWellFormed y d → IsWellFormed x d
well_on x y s d w f c = not_there (has_schema_fault x d f) (HasSchemaFault x d f) (schema_fault-Decides x d f) (λ h. true≢false (sym ((schema_fault-Decides y d f).1 (fault_on x y s d f h)) ∙ w f c))

-- what is told doesn't ask which are known
module _ (x y : List Name) (commons : Name → Ty) (d : Defined) where
  kind_on : (e : EntityForm Name) → kind_told (setting commons d y) e ≡ kind_told (setting commons d x) e
  kind_on (standard_form ps fs t) = refl
  kind_on (enumerated_form ids) = refl
  kind_on (external_form ps) = refl

  types_on : (es : EntityForms) → map (entity_told (setting commons d y)) es ≡ map (entity_told (setting commons d x)) es
  types_on [] = refl
  types_on (e ∷ es) = λ i. record { name = e.0; parents = parents_written e.1; kind = kind_on e.1 i } ∷ types_on es i

  schema_on : (es : EntityForms) (as_ : ActionForms) → schema_told (setting commons d y) es as_ ≡ schema_told (setting commons d x) es as_
  schema_on es as_ = λ i. record { types = types_on es i; actions = map (action_told (setting commons d x)) as_ }

  solved_on : IsSetOf x y → (cs : CommonForms) → IsSolved (setting commons d y) cs → IsSolved (setting commons d x) cs
  solved_on s cs w = record { solves = w.solves; others = w.others; once = w.once; apart = w.apart; known = λ n t c. record { each = λ m h. s.only m ((w.known n t c).each m h) } }

module _ (x y : List Name) (s : IsSetOf x y) (fs : Fragments) where
  abbrev formed_on : AreFormed y fs → AreFormed x fs
  formed_on f = record {
    has_all = f.has_all;
    none_reserved = f.none_reserved;
    no_action_type = f.no_action_type;
    none_shadows = f.none_shadows;
    commons_once = f.commons_once;
    types_once = f.types_once;
    actions_once = f.actions_once;
    resolved = f.resolved;
    resolves = f.resolves;
    commons = f.commons;
    solved = solved_on x y f.commons (sets_of fs) s (commons_of (all_of f.resolved)) f.solved;
    known = λ n h. s.only n (f.known n h);
    contexts = record { each = f.contexts.each };
    apart = f.apart;
  }

  same_schema : (f : AreFormed y fs) → schema_formed y fs f ≡ schema_formed x fs (formed_on f)
  same_schema f = schema_on x y f.commons (sets_of fs) (entities_of (all_of f.resolved)) (actions_of (all_of f.resolved))

  built_on : (ts : List KeptType) (ks : List KeptAction) → AreBuiltOfFormed y fs ts ks → AreBuiltOfFormed x fs ts ks
  built_on ts ks b = record { formed = formed_on b.formed; types = subst (λ t. AreTypesOf t ts) (same_schema b.formed) b.types; actions = subst (λ t. AreActionsOf t ks) (same_schema b.formed) b.actions }

  at_fault_on : (e : SchemaError) → IsFaultInFragments y fs e → IsFaultInFragments x fs e
  at_fault_on OutOfMemory h = h
  at_fault_on (DuplicateEntityType n) h = h
  at_fault_on (DuplicateCommonType n) h = h
  at_fault_on (DuplicateAction u) h = h
  at_fault_on (TypeNotDefined c) h = h
  at_fault_on (ActionNotDefined c id) h = h
  at_fault_on (CycleInCommonTypeReferences n) h = h
  at_fault_on (CycleInActionHierarchy u) h = h
  at_fault_on (ActionEntityTypeDeclared n) h = h
  at_fault_on (ContextNotRecord u) h = let k = h.2 in (h.0, h.1, (k.0, solved_on x y k.0 (sets_of fs) s (commons_of (all_of h.0)) k.1, k.2))
  at_fault_on (ReservedName e) h = h
  at_fault_on (TypeShadowing n) h = h
  at_fault_on (ActionShadowing u) h = h
  at_fault_on (UnknownExtensionType n) h = (h.0, λ c. h.1 (s.all (plain_name_of n) c))

pub only_a_set : ExtensionTypesAreASet
only_a_set = record {
  faults = λ x y s fs f i. record { each = λ d w. fault_on y x (turned x y s) d f (i.each d w) };
  names = λ x y s fs e i. record { each = λ d w. name_on y x (turned x y s) d e (i.each d w) };
  built = λ x y s fs ts ks b. record { are_well_formed = λ d w. well_on x y s d (b.are_well_formed d w); types = b.types; actions = b.actions };
  formed = λ x y s fs ts ks b. built_on x y s fs ts ks b;
  at_fault = λ x y s fs e h. at_fault_on x y s fs e h;
}
