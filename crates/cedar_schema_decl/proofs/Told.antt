-- Types whose names are resolved: what they tell, and where there is a refusal.
use Rattle.std.proofs.Common.{◌≡◌, Bool, true, false, ◌||◌, List, [], ◌∷◌, ◌++◌, Option, Some, None, Result, Ok, Err, IfOk, find, refl, sym, ap, ◌∙◌, subst}
use Rattle.std.proofs.lemmas.List.Folds.{list_any-append}
use Rattle.std.specs.Prelude.{is_none}
use Rattle.std.specs.List.{list_any}
use Rattle.std.specs.Option.{option_map_or}
use Rattle.cedar_expr_model.specs.Name.{Text, Name}
use Rattle.cedar_schema_model.specs.Types.{Ty, set_type, record_type, is_closed, Attributes}
use Rattle.cedar_schema_model.specs.Reference.{Namespace, ReferenceKind, Reference, Meant, meant_at}
use Rattle.cedar_schema_model.specs.Declarations.{Declarations, meant, references_in, references_in_fields}
use Rattle.cedar_schema_model.specs.Resolved.{with_attribute, type_meant, resolved_by, resolved_fields_by}
use Rattle.cedar_schema_decl.specs.Forms.{TypeForm, bool_form, long_form, string_form, set_form, record_form, reference_form, extension_form, FieldForms, no_field_forms, field_form}
use Rattle.cedar_schema_decl.specs.Conditional.{Conditional, conditional_in, may_mean}
use Rattle.cedar_schema_decl.specs.Defined.{Defined, is_defined, meant_by, meant_name, resolved, resolving}
use Rattle.cedar_schema_decl.specs.Requalified.{and_then, requalified, requalified_fields}
use Rattle.cedar_schema_decl.specs.Laws.{HasDeclared, namespace_parts, as_expr, as_exprs, type_told, fields_told, resolved_in, is_refused}
use Rattle.cedar_schema_decl.proofs.Resolving.{names_mean, found_again}

-- names of another state, where none is refused
module _ {A B : Type 0} (h : ReferenceKind → A → B) where
  abbrev mutual
    mapped : TypeForm A → TypeForm B
    mapped bool_form = bool_form
    mapped long_form = long_form
    mapped string_form = string_form
    mapped (set_form t) = set_form (mapped t)
    mapped (record_form fs) = record_form (mapped_fields fs)
    mapped (reference_form k a) = reference_form k (h k a)
    mapped (extension_form n) = extension_form n

    mapped_fields : FieldForms A → FieldForms B
    mapped_fields no_field_forms = no_field_forms
    mapped_fields (field_form a t r fs) = field_form a (mapped t) r (mapped_fields fs)

  abbrev all : {R : Type 0} → ReferenceKind → A → Result B R
  all k a = Ok (h k a)

  mutual
    all_mapped : {R : Type 0} (t : TypeForm A) → requalified {R = R} all t ≡ Ok (mapped t)
    all_mapped bool_form = refl
    all_mapped long_form = refl
    all_mapped string_form = refl
    all_mapped (set_form t) = ap (and_then (λ u. Ok (set_form u))) (all_mapped t)
    all_mapped (record_form fs) = ap (and_then (λ gs. Ok (record_form gs))) (fields_mapped fs)
    all_mapped (reference_form k a) = refl
    all_mapped (extension_form n) = refl

    fields_mapped : {R : Type 0} (fs : FieldForms A) → requalified_fields {R = R} all fs ≡ Ok (mapped_fields fs)
    fields_mapped no_field_forms = refl
    fields_mapped (field_form a t r fs) = (λ i. and_then (λ u. and_then (λ gs. Ok (field_form a u r gs)) (fields_mapped fs i)) (all_mapped t i))

  module _ {C R : Type 0} (g : ReferenceKind → B → Result C R) where
    mutual
      next : (t : TypeForm A) → requalified g (mapped t) ≡ requalified (λ k a. g k (h k a)) t
      next bool_form = refl
      next long_form = refl
      next string_form = refl
      next (set_form t) = ap (and_then (λ u. Ok (set_form u))) (next t)
      next (record_form fs) = ap (and_then (λ gs. Ok (record_form gs))) (next_fields fs)
      next (reference_form k a) = refl
      next (extension_form n) = refl

      next_fields : (fs : FieldForms A) → requalified_fields g (mapped_fields fs) ≡ requalified_fields (λ k a. g k (h k a)) fs
      next_fields no_field_forms = refl
      next_fields (field_form a t r fs) = (λ i. and_then (λ u. and_then (λ gs. Ok (field_form a u r gs)) (next_fields fs i)) (next t i))

    fused : (t : TypeForm A) → and_then (requalified g) (requalified all t) ≡ requalified (λ k a. g k (h k a)) t
    fused t = ap (and_then (requalified g)) (all_mapped t) ∙ next t

ok_then : {A B R : Type 0} (o : Result A R) (f : A → B) (P : A → Type 0) (Q : B → Type 0) → IfOk o P → ((x : A) → P x → Q (f x)) → IfOk (and_then (λ x. Ok (f x)) o) Q
ok_then (Ok x) f P Q h k = k x h
ok_then (Err r) f P Q h k = tt

ok_both : {A B C R : Type 0} (o : Result A R) (q : Result B R) (f : A → B → C) (P : A → Type 0) (S : B → Type 0) (Q : C → Type 0) → IfOk o P → IfOk q S → ((x : A) (y : B) → P x → S y → Q (f x y)) → IfOk (and_then (λ x. and_then (λ y. Ok (f x y)) q) o) Q
ok_both (Ok x) (Ok y) f P S Q h j k = k x y h j
ok_both (Ok x) (Err r) f P S Q h j k = tt
ok_both (Err r) q f P S Q h j k = tt

refused_then : {A B R : Type 0} (o : Result A R) (f : A → B) → is_refused (and_then (λ x. Ok (f x)) o) ≡ is_refused o
refused_then (Ok x) f = refl
refused_then (Err r) f = refl

refused_both : {A B C R : Type 0} (o : Result A R) (q : Result B R) (f : A → B → C) → is_refused (and_then (λ x. and_then (λ y. Ok (f x y)) q) o) ≡ (is_refused o || is_refused q)
refused_both (Ok x) (Ok y) f = refl
refused_both (Ok x) (Err r) f = refl
refused_both (Err r) q f = refl

or_false : (b : Bool) → b ≡ (b || false)
or_false true = refl
or_false false = refl

module _ (s : Defined) (d : Declarations) (has : HasDeclared s d) (space : Option Name) where
  abbrev means : ReferenceKind → Name → Result Name Conditional
  means k n = resolved s (conditional_in space k n)

  abbrev referred : ReferenceKind → Name → Reference
  referred k n = record { namespace = namespace_parts space; kind = k; name = n }

  at_once : (t : TypeForm Name) → resolved_in s space t ≡ requalified means t
  at_once t = fused (conditional_in space) (resolving s) t

  module _ (commons : Name → Ty) where
    reference_told : (k : ReferenceKind) (n : Name) (o : Option Meant) → meant_by s (conditional_in space k n) ≡ o → meant d (referred k n) ≡ o → IfOk (and_then (λ b. Ok (reference_form k b)) (option_map_or (λ m. Ok (meant_name m)) o (Err (conditional_in space k n)))) (λ r. type_told commons s r ≡ type_meant commons (meant d (referred k n)))
    reference_told k n None e f = tt
    reference_told k n (Some m) e f = ap (type_meant commons) (found_again (is_defined s) k (conditional_in space k n).names m e ∙ sym f)

    mutual
      told : (t : TypeForm Name) → IfOk (requalified means t) (λ r. type_told commons s r ≡ resolved_by commons d (namespace_parts space) (as_expr t))
      told bool_form = refl
      told long_form = refl
      told string_form = refl
      told (set_form t) = ok_then (requalified means t) set_form (λ r. type_told commons s r ≡ resolved_by commons d (namespace_parts space) (as_expr t)) (λ r. type_told commons s r ≡ set_type (resolved_by commons d (namespace_parts space) (as_expr t))) (told t) (λ u e. ap set_type e)
      told (record_form fs) = ok_then (requalified_fields means fs) record_form (λ gs. fields_told commons s gs ≡ resolved_fields_by commons d (namespace_parts space) (as_exprs fs)) (λ r. type_told commons s r ≡ record_type (resolved_fields_by commons d (namespace_parts space) (as_exprs fs)) is_closed) (told_fields fs) (λ gs e. ap (λ as_. record_type as_ is_closed) e)
      told (reference_form k n) = reference_told k n (meant_by s (conditional_in space k n)) refl (sym (names_mean s d has space k n))
      told (extension_form n) = refl

      told_fields : (fs : FieldForms Name) → IfOk (requalified_fields means fs) (λ gs. fields_told commons s gs ≡ resolved_fields_by commons d (namespace_parts space) (as_exprs fs))
      told_fields no_field_forms = refl
      told_fields (field_form a t r fs) = ok_both (requalified means t) (requalified_fields means fs) (λ u gs. field_form a u r gs) (λ u. type_told commons s u ≡ resolved_by commons d (namespace_parts space) (as_expr t)) (λ gs. fields_told commons s gs ≡ resolved_fields_by commons d (namespace_parts space) (as_exprs fs)) (λ hs. fields_told commons s hs ≡ with_attribute a (resolved_by commons d (namespace_parts space) (as_expr t)) r (resolved_fields_by commons d (namespace_parts space) (as_exprs fs))) (told t) (told_fields fs) (λ u gs e f. (λ i. with_attribute a (e i) r (f i)))

    pub types_declared : (t : TypeForm Name) → IfOk (resolved_in s space t) (λ r. type_told commons s r ≡ resolved_by commons d (namespace_parts space) (as_expr t))
    types_declared t = subst (λ o. IfOk o (λ r. type_told commons s r ≡ resolved_by commons d (namespace_parts space) (as_expr t))) (sym (at_once t)) (told t)

  abbrev lacks : Reference → Bool
  lacks r = is_none (meant d r)

  reference_refused : (k : ReferenceKind) (n : Name) (o : Option Meant) → is_refused (and_then (λ b. Ok (reference_form k b)) (option_map_or (λ m. Ok (meant_name m)) o (Err (conditional_in space k n)))) ≡ is_none o
  reference_refused k n None = refl
  reference_refused k n (Some m) = refl

  mutual
    refused : (t : TypeForm Name) → is_refused (requalified means t) ≡ list_any lacks (references_in (namespace_parts space) (as_expr t))
    refused bool_form = refl
    refused long_form = refl
    refused string_form = refl
    refused (set_form t) = refused_then (requalified means t) set_form ∙ refused t
    refused (record_form fs) = refused_then (requalified_fields means fs) record_form ∙ refused_fields fs
    refused (reference_form k n) = reference_refused k n (meant_by s (conditional_in space k n)) ∙ ap is_none (names_mean s d has space k n) ∙ or_false (lacks (referred k n))
    refused (extension_form n) = refl

    refused_fields : (fs : FieldForms Name) → is_refused (requalified_fields means fs) ≡ list_any lacks (references_in_fields (namespace_parts space) (as_exprs fs))
    refused_fields no_field_forms = refl
    refused_fields (field_form a t r fs) =
        refused_both (requalified means t) (requalified_fields means fs) (λ u gs. field_form a u r gs)
        ∙ (λ i. refused t i || refused_fields fs i)
        ∙ sym (list_any-append lacks (references_in (namespace_parts space) (as_expr t)) (references_in_fields (namespace_parts space) (as_exprs fs)))

  pub refused_undeclared : (t : TypeForm Name) → is_refused (resolved_in s space t) ≡ list_any lacks (references_in (namespace_parts space) (as_expr t))
  refused_undeclared t = ap is_refused (at_once t) ∙ refused t
