-- Names that are as they have to be, or not.
use Rattle.std.proofs.Common.{◌≡◌, List, false, Option, Some, None, Ok, Err, refl, sym, ◌∙◌}
use Rattle.std.proofs.lemmas.Bool.{true≢false}
use Rattle.std.specs.Prelude.{find, is_some}
use Rattle.std.specs.Option.{option_map_or}
use Rattle.std.specs.Rc.{rc_str_bytes}
use Rattle.std.specs.declared.result.Result.{Result}
use Rattle.cedar_expr_model.specs.Name.{Text, Name, is_reserved}
use Rattle.cedar_expr_names.specs.Views.{name_of, refused_name_of}
use Rattle.cedar_expr_names.specs.declared.internal_name.InternalName.{InternalName}
use Rattle.cedar_expr_leaves.specs.declared.conditional_name.ConditionalName.{ConditionalName}
use Rattle.cedar_schema_decl.specs.Conditional.{Conditional, conditional_of}
use Rattle.cedar_schema_fragments.specs.Refusals.{Refusal, no_type, no_action, reserved_type, Refuses}
use Rattle.cedar_schema_fragments.specs.declared.err.FragmentError.{FragmentError}
use Rattle.cedar_schema_fragments.specs.declared.err.FragmentError.TheVariants.{OutOfMemory, TypeNotDefined, ActionNotDefined, ReservedName}
use Rattle.cedar_schema_fragments.specs.declared.namespace_def.ValidatorSchemaFragment.{ValidatorSchemaFragment}
use Rattle.cedar_schema_builder.specs.Checked.{reserved_checked, is_action_word}
use Rattle.cedar_schema_builder.specs.GatheredLaws.{ReservedNamesAreFound, ActionTypesAreFound}
use Rattle.cedar_schema_builder.specs.GatheredNamed.{ReservedNamesAreThere, ActionTypesAreThere}
use Rattle.cedar_schema_builder.specs.WrittenNames.{names_in, entities_named}
use Rattle.cedar_schema_builder.specs.Faults.{of_fragments}
use Rattle.cedar_schema_builder.specs.FormSteps.{AreNamesFormed, IsFaultOfNames}
use Rattle.cedar_schema_builder.specs.Steps.{NamesFaultIn, AreNamed}
use Rattle.cedar_schema_builder.specs.declared.err.SchemaError.TheVariants as schema

-- the first of them, or that there is none
abbrev checked : Option Name → Result (Unit {0}) Refusal
checked o = option_map_or (λ n. Err (reserved_type n)) o (Ok tt)

none_found : (o : Option Name) (u : Unit {0}) → checked o ≡ Ok u → is_some o ≡ false
none_found None u h = refl
none_found (Some n) u h = absurd (cc)

nothing_found : (o : Option Name) (u : Unit {0}) → checked o ≡ Ok u → o ≡ None
nothing_found None u h = refl
nothing_found (Some n) u h = absurd (cc)

-- nothing else is told than a reserved name
no_type_told : (o : Option Name) (c : Conditional) → checked o ≡ Err (no_type c) → ⊥
no_type_told None c h = absurd (cc)
no_type_told (Some n) c h = absurd (cc)

no_action_told : (o : Option Name) (p : Conditional × Text) → checked o ≡ Err (no_action p) → ⊥
no_action_told None p h = absurd (cc)
no_action_told (Some n) p h = absurd (cc)

reserved_told : (o : Option Name) (m : Name) → checked o ≡ Err (reserved_type m) → o ≡ Some m
reserved_told None m h = absurd (cc)
reserved_told (Some n) m h = cc

module _ (fs : List (ValidatorSchemaFragment ConditionalName ConditionalName)) where
  pub named : ReservedNamesAreFound → ActionTypesAreFound → (u : Unit {0}) → reserved_checked fs ≡ Ok u → is_some (find is_action_word (entities_named fs)) ≡ false → AreNamed fs
  named found typed u h k = record {
    none_reserved = λ x d w p. true≢false (sym ((found fs d w x).1 p) ∙ none_found (find is_reserved (names_in fs)) u h);
    no_action_type = λ x d w p. true≢false (sym ((typed fs d w x).1 p) ∙ k);
  }

  -- out of memory names nothing
  pub memory_named : NamesFaultIn fs schema.OutOfMemory
  memory_named = record { each = λ x d w. tt }

  pub reserved_named : ReservedNamesAreThere → (e : FragmentError) → Refuses (reserved_checked fs) e → NamesFaultIn fs (of_fragments e)
  reserved_named there OutOfMemory h = memory_named
  reserved_named there (TypeNotDefined c) h = absurd (no_type_told (find is_reserved (names_in fs)) (conditional_of c) (h (no_type (conditional_of c)) refl))
  reserved_named there (ActionNotDefined c id) h = absurd (no_action_told (find is_reserved (names_in fs)) (conditional_of c, rc_str_bytes id) (h (no_action (conditional_of c, rc_str_bytes id)) refl))
  reserved_named there (ReservedName e) h = record { each = λ x d w. there fs d w (refused_name_of e) (reserved_told (find is_reserved (names_in fs)) (refused_name_of e) (h (reserved_type (refused_name_of e)) refl)) }

  pub typed_named : ActionTypesAreThere → (n : InternalName) → find is_action_word (entities_named fs) ≡ Some (name_of n) → NamesFaultIn fs (schema.ActionEntityTypeDeclared n)
  typed_named there n h = record { each = λ x d w. there fs d w (name_of n) h }

  -- Names of fragments that pass the checks are formed, and an error of the checks tells a fault of the names.
  pub names_formed : (u : Unit {0}) → reserved_checked fs ≡ Ok u → find is_action_word (entities_named fs) ≡ None → AreNamesFormed fs
  names_formed u h k = record { none_reserved = nothing_found (find is_reserved (names_in fs)) u h; no_action_type = k }

  pub memory_of_names : IsFaultOfNames fs schema.OutOfMemory
  memory_of_names = record { each = λ s x. tt }

  pub reserved_at_fault : (e : FragmentError) → Refuses (reserved_checked fs) e → IsFaultOfNames fs (of_fragments e)
  reserved_at_fault OutOfMemory h = memory_of_names
  reserved_at_fault (TypeNotDefined c) h = absurd (no_type_told (find is_reserved (names_in fs)) (conditional_of c) (h (no_type (conditional_of c)) refl))
  reserved_at_fault (ActionNotDefined c id) h = absurd (no_action_told (find is_reserved (names_in fs)) (conditional_of c, rc_str_bytes id) (h (no_action (conditional_of c, rc_str_bytes id)) refl))
  reserved_at_fault (ReservedName e) h = record { each = λ s x. reserved_told (find is_reserved (names_in fs)) (refused_name_of e) (h (reserved_type (refused_name_of e)) refl) }

  pub typed_at_fault : (n : InternalName) → find is_action_word (entities_named fs) ≡ Some (name_of n) → IsFaultOfNames fs (schema.ActionEntityTypeDeclared n)
  typed_at_fault n h = record { each = λ s x. h }
