-- Whether there is a refusal, of what is made of several parts.
use Rattle.std.proofs.Common.{◌≡◌, Bool, ◌||◌, List, [], ◌∷◌, map, Option, Some, None, option_map, Result, Ok, Err, refl, sym, ap, ◌∙◌}
use Rattle.std.proofs.lemmas.List.Folds.{list_any-append}
use Rattle.std.specs.Prelude.{is_none}
use Rattle.std.specs.List.{flat_map, list_any}
use Rattle.std.specs.Option.{option_map_or, option_to_list}
use Rattle.cedar_expr_model.specs.Name.{Text, Name}
use Rattle.cedar_schema_model.specs.Reference.{ReferenceKind, to_entity, Reference, Meant}
use Rattle.cedar_schema_model.specs.Declarations.{Declarations, meant, references_in, references_in_fields, types_in, to_entities, references_of_common, references_of_entity}
use Rattle.cedar_schema_decl.specs.Conditional.{Conditional, conditional_in}
use Rattle.cedar_schema_decl.specs.Defined.{Defined, meant_by, meant_name, resolved, resolving}
use Rattle.cedar_schema_decl.specs.Forms.{TypeForm, record_form, FieldForms, EntityForm, standard_form, enumerated_form, external_form}
use Rattle.cedar_schema_decl.specs.Laws.{HasDeclared, NamesMeanReferences, RefusedWhereUndeclared, namespace_parts, as_expr, as_exprs, is_refused}
use Rattle.cedar_schema_decl.specs.Requalified.{and_then, requalified, requalified_fields, requalified_entity, where_there, under_name, each}
use Rattle.cedar_schema_fragments.proofs.Anys.{or_none, any_map}
use Rattle.cedar_schema_fragments.proofs.Qualifying.{type_all}
use Rattle.cedar_schema_fragments.specs.Qualified.{type_with, fields_with, entity_with, common_qualified, entity_qualified}
use Rattle.cedar_schema_fragments.specs.WrittenDeclarations.{common_declaration, entity_declaration, kind_written, parents_written}

-- one part after the other, and the last one
refused_bind : {A B R : Type 0} (o : Result A R) (f : A → Result B R) (b c : Bool) → is_refused o ≡ b → ((x : A) → is_refused (f x) ≡ c) → is_refused (and_then f o) ≡ (b || c)
refused_bind (Ok x) f b c h k = k x ∙ ap (λ q. q || c) h
refused_bind (Err r) f b c h k = ap (λ q. q || c) h

refused_last : {A B R : Type 0} (o : Result A R) (f : A → B) → is_refused (and_then (λ x. Ok (f x)) o) ≡ is_refused o
refused_last (Ok x) f = refl
refused_last (Err r) f = refl

-- of each of those that are made
refused_each : {A B C R : Type 0} (f : B → Result C R) (g : A → B) (test : A → Bool) → ((x : A) → is_refused (f (g x)) ≡ test x) → (xs : List A) → is_refused (each f (map g xs)) ≡ list_any test xs
refused_each f g test h [] = refl
refused_each f g test h (x ∷ xs) =
    refused_bind (f (g x)) (λ y. and_then (λ ys. Ok (y ∷ ys)) (each f (map g xs))) (test x) (list_any test xs) (h x)
    (λ y. refused_last (each f (map g xs)) (λ ys. y ∷ ys) ∙ refused_each f g test h xs)

module _ (mean : NamesMeanReferences) (undeclared : RefusedWhereUndeclared) (s : Defined) (d : Declarations) (has : HasDeclared s d) where
  abbrev pub lacks : Reference → Bool
  lacks r = is_none (meant d r)

  module _ (space : Option Name) where
    abbrev pub referred : ReferenceKind → Name → Reference
    referred k n = record { namespace = namespace_parts space; kind = k; name = n }

    resolved_case : (c : Conditional) (o : Option Meant) → is_refused (option_map_or (λ m. Ok (meant_name m)) o (Err c)) ≡ is_none o
    resolved_case c None = refl
    resolved_case c (Some m) = refl

    name_refused : (k : ReferenceKind) (n : Name) → is_refused (resolved s (conditional_in space k n)) ≡ lacks (referred k n)
    name_refused k n = resolved_case (conditional_in space k n) (meant_by s (conditional_in space k n)) ∙ ap is_none (mean s d has space k n)

    pub type_refused : (t : TypeForm Name) → is_refused (requalified (resolving s) (type_with (conditional_in space) t)) ≡ list_any lacks (references_in (namespace_parts space) (as_expr t))
    type_refused t = ap (λ o. is_refused (and_then (requalified (resolving s)) o)) (sym (type_all space t)) ∙ undeclared s d has space t

    fields_refused : (fs : FieldForms Name) → is_refused (requalified_fields (resolving s) (fields_with (conditional_in space) fs)) ≡ list_any lacks (references_in_fields (namespace_parts space) (as_exprs fs))
    fields_refused fs = sym (refused_last (requalified_fields (resolving s) (fields_with (conditional_in space) fs)) record_form) ∙ type_refused (record_form fs)

    pub listed_lacks : (ns : List Name) → list_any (λ n. lacks (referred to_entity n)) ns ≡ list_any lacks (to_entities (namespace_parts space) ns)
    listed_lacks ns = sym (any_map lacks (referred to_entity) ns)

    names_refused : (ns : List Name) → is_refused (each (resolving s to_entity) (map (conditional_in space to_entity) ns)) ≡ list_any lacks (to_entities (namespace_parts space) ns)
    names_refused ns = refused_each (resolving s to_entity) (conditional_in space to_entity) (λ n. lacks (referred to_entity n)) (name_refused to_entity) ns ∙ listed_lacks ns

    tags_refused : (o : Option (TypeForm Name)) → is_refused (where_there (requalified (resolving s)) (option_map (type_with (conditional_in space)) o)) ≡ list_any lacks (flat_map (references_in (namespace_parts space)) (option_to_list (option_map as_expr o)))
    tags_refused None = refl
    tags_refused (Some t) =
        refused_last (requalified (resolving s) (type_with (conditional_in space) t)) (λ u. Some u)
        ∙ type_refused t
        ∙ sym (list_any-append lacks (references_in (namespace_parts space) (as_expr t)) [] ∙ or_none (list_any lacks (references_in (namespace_parts space) (as_expr t))))

    kind_refused : (e : EntityForm Name) → is_refused (requalified_entity (resolving s) (entity_with (conditional_in space) e)) ≡ (list_any lacks (to_entities (namespace_parts space) (parents_written e)) || list_any lacks (flat_map (references_in (namespace_parts space)) (types_in (kind_written e))))
    kind_refused (standard_form ps fs t) =
        refused_bind (each (resolving s to_entity) (map (conditional_in space to_entity) ps)) _ _ _ (names_refused ps)
        (λ qs. refused_bind (requalified_fields (resolving s) (fields_with (conditional_in space) fs)) _ _ _ (fields_refused fs)
        (λ gs. refused_last (where_there (requalified (resolving s)) (option_map (type_with (conditional_in space)) t)) (λ u. standard_form qs gs u) ∙ tags_refused t)
        ∙ sym (list_any-append lacks (references_in_fields (namespace_parts space) (as_exprs fs)) (flat_map (references_in (namespace_parts space)) (option_to_list (option_map as_expr t)))))
    kind_refused (enumerated_form ids) = refl
    kind_refused (external_form ps) =
        refused_last (each (resolving s to_entity) (map (conditional_in space to_entity) ps)) (λ qs. external_form qs)
        ∙ names_refused ps
        ∙ sym (or_none (list_any lacks (to_entities (namespace_parts space) ps)))

    entity_refused : (t : Text × EntityForm Name) → is_refused (under_name (requalified_entity (resolving s)) (entity_qualified space t)) ≡ list_any lacks (references_of_entity (entity_declaration space t))
    entity_refused t =
        refused_last (requalified_entity (resolving s) (entity_with (conditional_in space) t.1)) (λ y. ((entity_qualified space t).0, y))
        ∙ kind_refused t.1
        ∙ sym (list_any-append lacks (to_entities (namespace_parts space) (parents_written t.1)) (flat_map (references_in (namespace_parts space)) (types_in (kind_written t.1))))

    common_refused : (c : Text × TypeForm Name) → is_refused (under_name (requalified (resolving s)) (common_qualified space c)) ≡ list_any lacks (references_of_common (common_declaration space c))
    common_refused c =
        refused_last (requalified (resolving s) (type_with (conditional_in space) c.1)) (λ y. ((common_qualified space c).0, y))
        ∙ type_refused c.1

    pub commons_refused : (cs : List (Text × TypeForm Name)) → is_refused (each (under_name (requalified (resolving s))) (map (common_qualified space) cs)) ≡ list_any (λ c. list_any lacks (references_of_common (common_declaration space c))) cs
    commons_refused cs = refused_each (under_name (requalified (resolving s))) (common_qualified space) (λ c. list_any lacks (references_of_common (common_declaration space c))) common_refused cs

    pub entities_refused : (es : List (Text × EntityForm Name)) → is_refused (each (under_name (requalified_entity (resolving s))) (map (entity_qualified space) es)) ≡ list_any (λ t. list_any lacks (references_of_entity (entity_declaration space t))) es
    entities_refused es = refused_each (under_name (requalified_entity (resolving s))) (entity_qualified space) (λ t. list_any lacks (references_of_entity (entity_declaration space t))) entity_refused es
