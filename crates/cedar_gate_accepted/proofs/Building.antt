-- What is built of declarations, and why others are refused.
use Rattle.std.proofs.Common.{◌≡◌, Bool, true, false, Some, Ok, refl, ap, sym, ◌∙◌, subst, arith}
use Rattle.std.specs.Prelude.{List, [], ◌∷◌, Contains, not}
use Rattle.cedar_expr_model.specs.Name.{Name}
use Rattle.cedar_expr_model.specs.Lists.{is_nil}
use Rattle.cedar_expr_leaves.specs.declared.conditional_name.ConditionalName.{ConditionalName}
use Rattle.cedar_gate_accepted.specs.Causes.{fault_of_schema, IsRefusedFor}
use Rattle.cedar_gate_accepted.specs.Refused.{IsSubmittedWith, IsCompleteWhere}
use Rattle.cedar_gate_model.specs.Acceptance.{Submission, Cause, schema, external, extension_types, IsCause, is_clear_of, asks_schema, HasFault}
use Rattle.cedar_schema_builder.specs.Faults.{fault_told, Tells, of_fragments}
use Rattle.cedar_schema_builder.specs.declared.err.SchemaError.{SchemaError}
use Rattle.cedar_schema_builder.specs.declared.err.SchemaError.TheVariants as error
use Rattle.cedar_schema_built.specs.BuiltOf.{IsBuiltOf, CompleteIsFaultless}
use Rattle.std.specs.Prelude.{flat_map}
use Rattle.std.specs.Rc.{rc_str_bytes}
use Rattle.cedar_expr_names.specs.Views.{refused_name_of}
use Rattle.cedar_expr_leaves.specs.declared.raw_name.RawName.{RawName}
use Rattle.cedar_gate_fragments.specs.Written.{declared_by}
use Rattle.cedar_schema_decl.specs.Conditional.{conditional_of}
use Rattle.cedar_schema_decl.specs.Requalified.{each}
use Rattle.cedar_schema_decl.specs.declared.json_schema.Fragment.{Fragment}
use Rattle.cedar_schema_fragments.specs.Laws.{RefusalsAreReserved, RefusedAreFaulty}
use Rattle.cedar_schema_fragments.specs.Qualified.{namespace_qualified}
use Rattle.cedar_schema_fragments.specs.Refusals.{no_type, no_action, reserved_type, Refuses}
use Rattle.cedar_schema_fragments.specs.Written.{WrittenNamespace, written_fragment}
use Rattle.cedar_schema_fragments.specs.WrittenDeclarations.{AreWritten, all_forms, declarations_of}
use Rattle.cedar_schema_fragments.specs.declared.err.FragmentError.{FragmentError}
use Rattle.cedar_schema_fragments.specs.declared.err.FragmentError.TheVariants as fragments
use Rattle.cedar_schema_fragments.specs.declared.namespace_def.ValidatorSchemaFragment.{ValidatorSchemaFragment}
use Rattle.cedar_schema_model.specs.Kept.{Kept, Elsewhere, elsewhere}
use Rattle.cedar_schema_model.specs.BagLaws.{HasSchemaFault, SchemaFaultsDecide}
use Rattle.cedar_schema_model.specs.Declarations.{Declarations}
use Rattle.cedar_schema_model.specs.WellFormed.{SchemaFault, reserved_name, ill_forms, has_schema_fault, unresolved_external}

-- a cause that asks no schema
pub plain_fault : (s : Submission) (c : Cause) → IsCause c → asks_schema c ≡ false → is_clear_of c s ≡ false → HasFault c s
plain_fault s c k a h = (k, h, λ b. let f : false ≡ true = sym a ∙ b in absurd (cc))

-- what an error tells is a fault of ill-formed declarations
ill_told : (e : SchemaError) (g : SchemaFault) → fault_told e ≡ Some g → Contains ill_forms g
ill_told error.OutOfMemory g h = absurd (cc)
ill_told (error.DuplicateEntityType n) g h = (0, omega arith, cc)
ill_told (error.DuplicateCommonType n) g h = (1, omega arith, cc)
ill_told (error.DuplicateAction u) g h = (2, omega arith, cc)
ill_told (error.TypeNotDefined c) g h = (3, omega arith, cc)
ill_told (error.ActionNotDefined c id) g h = (4, omega arith, cc)
ill_told (error.CycleInCommonTypeReferences n) g h = (5, omega arith, cc)
ill_told (error.CycleInActionHierarchy u) g h = (6, omega arith, cc)
ill_told (error.ActionEntityTypeDeclared n) g h = (7, omega arith, cc)
ill_told (error.ContextNotRecord u) g h = (8, omega arith, cc)
ill_told (error.ReservedName r) g h = (9, omega arith, cc)
ill_told (error.TypeShadowing n) g h = (10, omega arith, cc)
ill_told (error.ActionShadowing u) g h = (10, omega arith, cc)
ill_told (error.UnknownExtensionType n) g h = (11, omega arith, cc)

not_false : (b : Bool) → not b ≡ false → b ≡ true
not_false true h = refl
not_false false h = absurd (let f : true ≡ false = h in cc)

module _ (decide : SchemaFaultsDecide) (x : List Name) (d : Declarations) (s : Submission) (w : IsSubmittedWith x d s) where
  there : (g : SchemaFault) → HasSchemaFault x d g → has_schema_fault (extension_types s.table) s.declarations g ≡ true
  there g h = (λ i. has_schema_fault (w.given i) (w.declared i) g) ∙ (decide x d g).1 h

  declared_fault : (g : SchemaFault) → Contains ill_forms g → HasSchemaFault x d g → HasFault (schema g) s
  declared_fault g k h = plain_fault s (schema g) k refl (ap not (there g h))

  told : (e : SchemaError) → Tells (HasSchemaFault x d) e → (g : SchemaFault) → fault_told e ≡ Some g → HasFault (schema g) s
  told e t g h = declared_fault g (ill_told e g h) (t g h)

  -- an error of the declarations, as the gate's fault
  pub error_refused : (e : SchemaError) → Tells (HasSchemaFault x d) e → IsRefusedFor s (fault_of_schema e)
  error_refused error.OutOfMemory t = tt
  error_refused (error.DuplicateEntityType n) t = told (error.DuplicateEntityType n) t _ refl
  error_refused (error.DuplicateCommonType n) t = told (error.DuplicateCommonType n) t _ refl
  error_refused (error.DuplicateAction u) t = told (error.DuplicateAction u) t _ refl
  error_refused (error.TypeNotDefined r) t = told (error.TypeNotDefined r) t _ refl
  error_refused (error.ActionNotDefined r id) t = told (error.ActionNotDefined r id) t _ refl
  error_refused (error.CycleInCommonTypeReferences n) t = told (error.CycleInCommonTypeReferences n) t _ refl
  error_refused (error.CycleInActionHierarchy u) t = told (error.CycleInActionHierarchy u) t _ refl
  error_refused (error.ActionEntityTypeDeclared n) t = told (error.ActionEntityTypeDeclared n) t _ refl
  error_refused (error.ContextNotRecord u) t = told (error.ContextNotRecord u) t _ refl
  error_refused (error.ReservedName r) t = told (error.ReservedName r) t _ refl
  error_refused (error.TypeShadowing n) t = told (error.TypeShadowing n) t _ refl
  error_refused (error.ActionShadowing u) t = told (error.ActionShadowing u) t _ refl
  error_refused (error.UnknownExtensionType n) t = told (error.UnknownExtensionType n) t _ refl

  -- an external declaration
  pub external_refused : (k : Kept) → IsCompleteWhere x d k → is_nil (elsewhere k) ≡ false → HasFault external s
  external_refused k w2 h =
      let fault : has_schema_fault (extension_types s.table) s.declarations unresolved_external ≡ true =
      (λ i. has_schema_fault (w.given i) (w.declared i) unresolved_external) ∙ not_false (has_schema_fault x d unresolved_external) (sym w2.is ∙ h) in
      plain_fault s external tt refl (ap not fault)

-- where nothing is declared elsewhere there is no fault of an external declaration
pub complete_where : SchemaFaultsDecide → CompleteIsFaultless → (x : List Name) (fs : List (ValidatorSchemaFragment ConditionalName ConditionalName)) (d : Declarations) (k : Kept) → IsBuiltOf x fs k → AreWritten fs d → IsCompleteWhere x d k
complete_where decide law x fs d k b w = record { is = go (elsewhere k) (has_schema_fault x d unresolved_external) refl refl }
  where
    go : (es : List Elsewhere) (t : Bool) → elsewhere k ≡ es → has_schema_fault x d unresolved_external ≡ t → is_nil es ≡ not t
    go [] false e f = refl
    go [] true e f = absurd ((law x fs k b d w).0 e ((decide x d unresolved_external).0 f))
    go (y ∷ es) true e f = refl
    go (y ∷ es) false e f =
        let none : elsewhere k ≡ [] = (law x fs k b d w).1 (λ h. let g : false ≡ true = sym f ∙ (decide x d unresolved_external).1 h in absurd (cc)) in
        absurd (cc)

-- fragments under full names write the declarations that they are made of
pub as_written : (fs : List (Fragment RawName)) (made : List (ValidatorSchemaFragment ConditionalName ConditionalName)) → each namespace_qualified (flat_map written_fragment fs) ≡ Ok (all_forms made) → AreWritten made (declared_by fs)
as_written fs made h = record { namespaces = flat_map written_fragment fs; declares = refl; qualifies = h }

-- what is refused as it is written has a reserved name
pub fragment_faults : RefusalsAreReserved → RefusedAreFaulty → (x : List Name) (ws : List WrittenNamespace) (e : FragmentError) → Refuses (each namespace_qualified ws) e → Tells (HasSchemaFault x (declarations_of ws)) (of_fragments e)
fragment_faults told_ faulty x ws fragments.OutOfMemory h f k = absurd (cc)
fragment_faults told_ faulty x ws (fragments.TypeNotDefined c) h f k =
    let other = (told_ ws (no_type (conditional_of c)) (h (no_type (conditional_of c)) refl)).told in absurd (cc)
fragment_faults told_ faulty x ws (fragments.ActionNotDefined c id) h f k =
    let other = (told_ ws (no_action (conditional_of c, rc_str_bytes id)) (h (no_action (conditional_of c, rc_str_bytes id)) refl)).told in absurd (cc)
fragment_faults told_ faulty x ws (fragments.ReservedName e) h f k =
    let same : reserved_name ≡ f = cc in
    let P : SchemaFault → Type 0 = λ g. HasSchemaFault x (declarations_of ws) g in subst P same (faulty x ws (reserved_type (refused_name_of e)) (h (reserved_type (refused_name_of e)) refl))
