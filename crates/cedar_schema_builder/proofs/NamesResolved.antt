-- What is refused when the names of fragments are resolved is named as it is written.
use Rattle.std.proofs.Common.{◌≡◌, Bool, true, false, cond, List, [], ◌∷◌, ◌++◌, map, Option, Some, None, option_map, Result, Ok, Err, IfErr, refl, sym}
use Rattle.std.proofs.lemmas.List.Elements.{Contains-append_left, Contains-append_right}
use Rattle.std.specs.Prelude.{Contains}
use Rattle.std.specs.List.{flat_map}
use Rattle.std.specs.Option.{option_map_or, option_to_list}
use Rattle.cedar_expr_model.specs.Name.{Text, Name, name_eq, is_reserved}
use Rattle.cedar_expr_model.proofs.Equality.{name_eq-Decides}
use Rattle.cedar_expr_model.proofs.Lists.{contains_head, contains_tail, found-Decides, map_has}
use Rattle.cedar_schema_model.proofs.Decls.Faults.{meant_is_declared}
use Rattle.cedar_schema_model.specs.Declarations.{Declarations, common_names, entity_names, is_declared, meant, references_in, references_in_fields, types_in, to_entities, references_of_common, references_of_entity, references}
use Rattle.cedar_schema_model.specs.Reference.{Namespace, ReferenceKind, to_entity, Reference, Meant, meant_common, meant_entity}
use Rattle.cedar_schema_model.specs.WellFormed.{written_names}
use Rattle.cedar_schema_decl.specs.Conditional.{Conditional, conditional_in}
use Rattle.cedar_schema_decl.specs.Defined.{Defined, meant_by, meant_name, resolved, resolving}
use Rattle.cedar_schema_decl.specs.Forms.{TypeForm, bool_form, long_form, string_form, set_form, record_form, reference_form, extension_form, FieldForms, no_field_forms, field_form, EntityForm, standard_form, enumerated_form, external_form}
use Rattle.cedar_schema_decl.specs.Laws.{HasDeclared, NamesMeanReferences, namespace_parts, as_expr, as_exprs}
use Rattle.cedar_schema_decl.specs.Requalified.{and_then, requalified, requalified_fields, requalified_entity, where_there, under_name, each}
use Rattle.cedar_schema_fragments.specs.Qualified.{type_with, fields_with, entity_with, common_qualified, entity_qualified}
use Rattle.cedar_schema_fragments.specs.Refusals.{Refusal, no_type, reserved_type}
use Rattle.cedar_schema_fragments.specs.Resolved.{of_types, unreserved, entity_resolved, context_resolved}
use Rattle.cedar_schema_fragments.specs.WrittenDeclarations.{common_declaration, entity_declaration, kind_written, parents_written}
use Rattle.cedar_schema_builder.specs.GatheredNamed.{IsUndeclared, NamesRefused}

-- one part after the other, and the last one
module _ {A B R : Type 0} (P : R → Type 0) where
  pub named_bind : (o : Result A R) (f : A → Result B R) → IfErr o P → ((x : A) → IfErr (f x) P) → IfErr (and_then f o) P
  named_bind (Ok x) f h k = k x
  named_bind (Err r) f h k = h

  pub named_last : (o : Result A R) (f : A → B) → IfErr o P → IfErr (and_then (λ x. Ok (f x)) o) P
  named_last (Ok x) f h = tt
  named_last (Err r) f h = h

-- of each of those that are made
pub named_each : {A B C R : Type 0} (P : R → Type 0) (f : B → Result C R) (g : A → B) (xs : List A) → ((x : A) → Contains xs x → IfErr (f (g x)) P) → IfErr (each f (map g xs)) P
named_each P f g [] h = tt
named_each P f g (x ∷ xs) h =
    named_bind P (f (g x)) (λ y. and_then (λ ys. Ok (y ∷ ys)) (each f (map g xs))) (h x (contains_head x xs))
    (λ y. named_last P (each f (map g xs)) (λ ys. y ∷ ys) (named_each P f g xs (λ z k. h z (contains_tail x xs z k))))

pub named_types : {A : Type 0} (P : Refusal → Type 0) (o : Result A Conditional) → IfErr o (λ c. P (no_type c)) → IfErr (of_types o) P
named_types P (Ok x) h = tt
named_types P (Err c) h = h

module _ (mean : NamesMeanReferences) (s : Defined) (d : Declarations) (has : HasDeclared s d) where
  -- a name that means something is a written one
  among_declared : (m : Meant) → is_declared d m ≡ true → Contains (written_names d) (meant_name m)
  among_declared (meant_common n) h = Contains-append_left (common_names d) _ n ((found-Decides name_eq name_eq-Decides n (common_names d)).0 h)
  among_declared (meant_entity n) h = Contains-append_right (common_names d) _ n (Contains-append_left (entity_names d) _ n ((found-Decides name_eq name_eq-Decides n (entity_names d)).0 h))

  module _ (space : Option Name) where
    abbrev parts : Namespace
    parts = namespace_parts space

    abbrev reference_of : ReferenceKind → Name → Reference
    reference_of k n = record { namespace = parts; kind = k; name = n }

    -- all of them are references of the declarations
    abbrev AreThere : List Reference → Type 0
    AreThere rs = (r : Reference) → Contains rs r → Contains (references d) r

    name_named : (k : ReferenceKind) (n : Name) → Contains (references d) (reference_of k n) → IfErr (resolved s (conditional_in space k n)) (IsUndeclared d)
    name_named k n h = go (meant_by s (conditional_in space k n)) (sym (mean s d has space k n))
      where
        go : (o : Option Meant) → meant d (reference_of k n) ≡ o → IfErr {T = Name} (option_map_or (λ m. Ok (meant_name m)) o (Err (conditional_in space k n))) (IsUndeclared d)
        go None e = (reference_of k n, h, (space, refl, refl), e)
        go (Some m) e = tt

    mutual
      type_named : (t : TypeForm Name) → AreThere (references_in parts (as_expr t)) → IfErr (requalified (resolving s) (type_with (conditional_in space) t)) (IsUndeclared d)
      type_named bool_form h = tt
      type_named long_form h = tt
      type_named string_form h = tt
      type_named (set_form t) h = named_last (IsUndeclared d) (requalified (resolving s) (type_with (conditional_in space) t)) set_form (type_named t h)
      type_named (record_form fs) h = named_last (IsUndeclared d) (requalified_fields (resolving s) (fields_with (conditional_in space) fs)) record_form (fields_named fs h)
      type_named (reference_form k n) h = named_last (IsUndeclared d) (resolved s (conditional_in space k n)) (reference_form k) (name_named k n (h (reference_of k n) (contains_head (reference_of k n) [])))
      type_named (extension_form n) h = tt

      fields_named : (fs : FieldForms Name) → AreThere (references_in_fields parts (as_exprs fs)) → IfErr (requalified_fields (resolving s) (fields_with (conditional_in space) fs)) (IsUndeclared d)
      fields_named no_field_forms h = tt
      fields_named (field_form a t r fs) h =
          named_bind (IsUndeclared d) (requalified (resolving s) (type_with (conditional_in space) t)) _ (type_named t (λ q k. h q (Contains-append_left (references_in parts (as_expr t)) _ q k)))
          (λ u. named_last (IsUndeclared d) (requalified_fields (resolving s) (fields_with (conditional_in space) fs)) (field_form a u r) (fields_named fs (λ q k. h q (Contains-append_right (references_in parts (as_expr t)) _ q k))))

    -- names of entity types
    listed_there : (ns : List Name) → AreThere (to_entities parts ns) → (n : Name) → Contains ns n → Contains (references d) (reference_of to_entity n)
    listed_there ns h n k = h (reference_of to_entity n) (map_has (reference_of to_entity) ns n k)

    names_named : (ns : List Name) → AreThere (to_entities parts ns) → IfErr (each (resolving s to_entity) (map (conditional_in space to_entity) ns)) (IsUndeclared d)
    names_named ns h = named_each (IsUndeclared d) (resolving s to_entity) (conditional_in space to_entity) ns (λ n k. name_named to_entity n (listed_there ns h n k))

    tags_named : (o : Option (TypeForm Name)) → AreThere (flat_map (references_in parts) (option_to_list (option_map as_expr o))) → IfErr (where_there (requalified (resolving s)) (option_map (type_with (conditional_in space)) o)) (IsUndeclared d)
    tags_named None h = tt
    tags_named (Some t) h = named_last (IsUndeclared d) (requalified (resolving s) (type_with (conditional_in space) t)) Some (type_named t (λ q k. h q (Contains-append_left (references_in parts (as_expr t)) _ q k)))

    kind_named : (e : EntityForm Name) → AreThere (to_entities parts (parents_written e) ++ flat_map (references_in parts) (types_in (kind_written e))) → IfErr (requalified_entity (resolving s) (entity_with (conditional_in space) e)) (IsUndeclared d)
    kind_named (standard_form ps fs t) h =
        named_bind (IsUndeclared d) (each (resolving s to_entity) (map (conditional_in space to_entity) ps)) _ (names_named ps (λ q k. h q (Contains-append_left (to_entities parts ps) _ q k)))
        (λ qs. named_bind (IsUndeclared d) (requalified_fields (resolving s) (fields_with (conditional_in space) fs)) _ (fields_named fs (λ q k. h q (Contains-append_right (to_entities parts ps) _ q (Contains-append_left (references_in_fields parts (as_exprs fs)) _ q k))))
        (λ gs. named_last (IsUndeclared d) (where_there (requalified (resolving s)) (option_map (type_with (conditional_in space)) t)) (standard_form qs gs) (tags_named t (λ q k. h q (Contains-append_right (to_entities parts ps) _ q (Contains-append_right (references_in_fields parts (as_exprs fs)) _ q k))))))
    kind_named (enumerated_form ids) h = tt
    kind_named (external_form ps) h = named_last (IsUndeclared d) (each (resolving s to_entity) (map (conditional_in space to_entity) ps)) external_form (names_named ps (λ q k. h q (Contains-append_left (to_entities parts ps) _ q k)))

    pub common_named : (c : Text × TypeForm Name) → AreThere (references_of_common (common_declaration space c)) → IfErr (under_name (requalified (resolving s)) (common_qualified space c)) (IsUndeclared d)
    common_named c h = named_last (IsUndeclared d) (requalified (resolving s) (type_with (conditional_in space) c.1)) (λ y. ((common_qualified space c).0, y)) (type_named c.1 h)

    pub entity_named : (t : Text × EntityForm Name) → AreThere (references_of_entity (entity_declaration space t)) → IfErr (under_name (requalified_entity (resolving s)) (entity_qualified space t)) (IsUndeclared d)
    entity_named t h = named_last (IsUndeclared d) (requalified_entity (resolving s) (entity_with (conditional_in space) t.1)) (λ y. ((entity_qualified space t).0, y)) (kind_named t.1 h)

    -- the names that actions apply to
    plain_named : (n : Name) → Contains (written_names d) n → IfErr (unreserved n) (NamesRefused d)
    plain_named n h = go (is_reserved n) refl
      where
        go : (b : Bool) → is_reserved n ≡ b → IfErr {T = Name} (cond b (Err (reserved_type n)) (Ok n)) (NamesRefused d)
        go true e = (h, e)
        go false e = tt

    applies_named : (n : Name) → Contains (references d) (reference_of to_entity n) → IfErr (entity_resolved s (conditional_in space to_entity n)) (NamesRefused d)
    applies_named n h = go (meant_by s (conditional_in space to_entity n)) (sym (mean s d has space to_entity n))
      where
        go : (o : Option Meant) → meant d (reference_of to_entity n) ≡ o → IfErr (and_then unreserved (of_types (option_map_or (λ m. Ok (meant_name m)) o (Err (conditional_in space to_entity n))))) (NamesRefused d)
        go None e = (reference_of to_entity n, h, (space, refl, refl), e)
        go (Some m) e = plain_named (meant_name m) (among_declared m (meant_is_declared d (reference_of to_entity n) m e))

    pub listed_named : (ns : List Name) → AreThere (to_entities parts ns) → IfErr (each (entity_resolved s) (map (conditional_in space to_entity) ns)) (NamesRefused d)
    listed_named ns h = named_each (NamesRefused d) (entity_resolved s) (conditional_in space to_entity) ns (λ n k. applies_named n (listed_there ns h n k))

    pub context_named : (t : TypeForm Name) → AreThere (references_in parts (as_expr t)) → IfErr (context_resolved s (type_with (conditional_in space) t)) (NamesRefused d)
    context_named t h = named_types (NamesRefused d) (requalified (resolving s) (type_with (conditional_in space) t)) (type_named t h)
