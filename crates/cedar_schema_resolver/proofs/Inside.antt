-- What is inside a type whose names are resolved is what is inside the type that is written.
use Rattle.std.proofs.Common.{◌≡◌, List, [], ◌++◌, Option, Some, None, Result, Ok, Err, IfOk, find, refl, sym, ap, ◌∙◌, subst}
use Rattle.std.proofs.lemmas.List.Elements.{filter_map-append}
use Rattle.std.specs.List.{filter_map, cons_option}
use Rattle.std.specs.Option.{option_to_list}
use Rattle.cedar_expr_model.specs.Name.{Name}
use Rattle.cedar_schema_model.specs.Reference.{Namespace, ReferenceKind, Reference, Meant, meant_common, meant_entity, meant_at}
use Rattle.cedar_schema_model.specs.Resolved.{type_meant, resolved_by}
use Rattle.cedar_schema_model.specs.Types.{Ty, entity_type, set_type}
use Rattle.cedar_schema_model.specs.Declarations.{Declarations, reference, meant, references_in, references_in_fields, extensions_in, extensions_in_fields}
use Rattle.cedar_schema_decl.specs.Conditional.{Conditional, conditional_in, qualifying}
use Rattle.cedar_schema_decl.specs.Defined.{Defined, is_defined, resolving}
use Rattle.cedar_schema_decl.specs.Forms.{TypeForm, bool_form, long_form, string_form, set_form, record_form, reference_form, extension_form, FieldForms, no_field_forms, field_form}
use Rattle.cedar_schema_decl.specs.Laws.{HasDeclared, namespace_parts, as_expr, as_exprs, type_told, resolved_in, ResolvedTypesAreDeclared}
use Rattle.cedar_schema_decl.specs.Requalified.{and_then, requalified, requalified_fields, qualified_in}
use Rattle.cedar_schema_resolver.specs.Meanings.{meant_in, meant_in_fields}
use Rattle.cedar_schema_resolver.proofs.Outcome.{ok_then, ok_both}

-- types that tell what common and entity types a reference means
abbrev probe : Name → Ty
probe n = set_type (entity_type n)

same_meant : (o q : Option Meant) → type_meant probe o ≡ type_meant probe q → o ≡ q
same_meant None None h = refl
same_meant None (Some (meant_common n)) h = absurd (cc)
same_meant None (Some (meant_entity n)) h = absurd (cc)
same_meant (Some (meant_common m)) None h = absurd (cc)
same_meant (Some (meant_common m)) (Some (meant_common n)) h = let e : m ≡ n = cc in ap (λ k. Some (meant_common k)) e
same_meant (Some (meant_common m)) (Some (meant_entity n)) h = absurd (cc)
same_meant (Some (meant_entity m)) None h = absurd (cc)
same_meant (Some (meant_entity m)) (Some (meant_common n)) h = absurd (cc)
same_meant (Some (meant_entity m)) (Some (meant_entity n)) h = let e : m ≡ n = cc in ap (λ k. Some (meant_entity k)) e

meant_alone : (o q : Option Meant) → o ≡ q → option_to_list o ≡ cons_option q []
meant_alone None q e = ap (λ p. cons_option p []) e
meant_alone (Some m) q e = ap (λ p. cons_option p []) e

module _ (law : ResolvedTypesAreDeclared) (d : Defined) (e : Declarations) (has : HasDeclared d e) (space : Option Name) where
  abbrev ns : Namespace
  ns = namespace_parts space

  -- These are meant by the references, and the extension types are the same.
  pub record AreInside (rs : List Reference) (ys : List Name) (ms : List Meant) (xs : List Name) : Type 0 where
    pub meant : ms ≡ filter_map (meant e) rs
    pub named : xs ≡ ys

  abbrev pub IsInside : TypeForm Name → TypeForm Name → Type 0
  IsInside t r = AreInside (references_in ns (as_expr t)) (extensions_in (as_expr t)) (meant_in d r) (extensions_in (as_expr r))

  abbrev AreFieldsInside : FieldForms Name → FieldForms Name → Type 0
  AreFieldsInside fs gs = AreInside (references_in_fields ns (as_exprs fs)) (extensions_in_fields (as_exprs fs)) (meant_in_fields d gs) (extensions_in_fields (as_exprs gs))

  abbrev resolves : TypeForm Conditional → Result (TypeForm Name) Conditional
  resolves t = requalified (resolving d) t

  abbrev resolves_fields : FieldForms Conditional → Result (FieldForms Name) Conditional
  resolves_fields fs = requalified_fields (resolving d) fs

  abbrev qualified_fields : FieldForms Name → Result (FieldForms Conditional) Conditional
  qualified_fields fs = requalified_fields (qualifying space) fs

  set_ok : (o : Result (TypeForm Conditional) Conditional) (P Q : TypeForm Name → Type 0) → IfOk (and_then resolves o) P → ((r : TypeForm Name) → P r → Q (set_form r)) → IfOk (and_then resolves (and_then (λ u. Ok (set_form u)) o)) Q
  set_ok (Ok u) P Q h k = ok_then (resolves u) set_form P Q h k
  set_ok (Err c) P Q h k = tt

  record_ok : (o : Result (FieldForms Conditional) Conditional) (P : FieldForms Name → Type 0) (Q : TypeForm Name → Type 0) → IfOk (and_then resolves_fields o) P → ((gs : FieldForms Name) → P gs → Q (record_form gs)) → IfOk (and_then resolves (and_then (λ gs. Ok (record_form gs)) o)) Q
  record_ok (Ok gs) P Q h k = ok_then (resolves_fields gs) record_form P Q h k
  record_ok (Err c) P Q h k = tt

  field_ok : (o : Result (TypeForm Conditional) Conditional) (q : Result (FieldForms Conditional) Conditional) (a : _) (r : _) (P : TypeForm Name → Type 0) (S Q : FieldForms Name → Type 0) → IfOk (and_then resolves o) P → IfOk (and_then resolves_fields q) S
      → ((u : TypeForm Name) (gs : FieldForms Name) → P u → S gs → Q (field_form a u r gs)) → IfOk (and_then resolves_fields (and_then (λ u. and_then (λ gs. Ok (field_form a u r gs)) q) o)) Q
  field_ok (Ok u) (Ok gs) a r P S Q h j k = ok_both (resolves u) (resolves_fields gs) (λ v hs. field_form a v r hs) P S Q h j k
  field_ok (Ok u) (Err c) a r P S Q h j k = tt
  field_ok (Err c) q a r P S Q h j k = tt

  nothing : AreInside [] [] [] []
  nothing = record { meant = refl; named = refl }

  abbrev referred : ReferenceKind → Name → Reference
  referred k n = record { namespace = ns; kind = k; name = n }

  reference_inside : (k : ReferenceKind) (n : Name) (o : Result Name Conditional) → IfOk (and_then (λ b. Ok (reference_form k b)) o) (λ r. type_told probe d r ≡ resolved_by probe e ns (reference k n)) → IfOk (and_then (λ b. Ok (reference_form k b)) o) (IsInside (reference_form k n))
  reference_inside k n (Ok b) h = record { meant = meant_alone (find (is_defined d) (meant_at k b)) (meant e (referred k n)) (same_meant (find (is_defined d) (meant_at k b)) (meant e (referred k n)) h); named = refl }
  reference_inside k n (Err c) h = tt

  mutual
    inside : (t : TypeForm Name) → IfOk (resolved_in d space t) (IsInside t)
    inside bool_form = nothing
    inside long_form = nothing
    inside string_form = nothing
    inside (set_form t) = set_ok (qualified_in space t) (IsInside t) (IsInside (set_form t)) (inside t) (λ r h. record { meant = h.meant; named = h.named })
    inside (record_form fs) = record_ok (qualified_fields fs) (AreFieldsInside fs) (IsInside (record_form fs)) (fields_inside fs) (λ gs h. record { meant = h.meant; named = h.named })
    inside (reference_form k n) = reference_inside k n (resolving d k (conditional_in space k n)) (law d e has space (reference_form k n) probe)
    inside (extension_form n) = record { meant = refl; named = refl }

    fields_inside : (fs : FieldForms Name) → IfOk (and_then resolves_fields (qualified_fields fs)) (AreFieldsInside fs)
    fields_inside no_field_forms = nothing
    fields_inside (field_form a t r fs) =
        field_ok (qualified_in space t) (qualified_fields fs) a r (IsInside t) (AreFieldsInside fs) (AreFieldsInside (field_form a t r fs)) (inside t) (fields_inside fs)
        (λ u gs h k. record {
          meant = (λ i. h.meant i ++ k.meant i) ∙ sym (filter_map-append (meant e) (references_in ns (as_expr t)) (references_in_fields ns (as_exprs fs)));
          named = λ i. h.named i ++ k.named i;
        })

  pub is_inside : (t r : TypeForm Name) → resolved_in d space t ≡ Ok r → IsInside t r
  is_inside t r h = subst (λ o. IfOk o (IsInside t)) h (inside t)
