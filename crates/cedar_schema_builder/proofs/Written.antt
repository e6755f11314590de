-- What stands in the declarations that resolved entity types and actions write.
use Rattle.std.proofs.Common.{◌≡◌, false, List, [], ◌∷◌, ◌++◌, map, Option, Some, None, Result, Ok, refl, sym, ap, ◌∙◌, subst}
use Rattle.std.specs.Prelude.{Contains, is_none}
use Rattle.std.proofs.lemmas.Bool.{true≢false}
use Rattle.std.specs.List.{list_any}
use Rattle.cedar_expr_model.specs.Name.{Text, Name}
use Rattle.cedar_expr_model.specs.Uid.{Uid}
use Rattle.cedar_expr_model.proofs.Lists.{any_has}
use Rattle.cedar_schema_model.specs.Reference.{Namespace, to_entity, Reference}
use Rattle.cedar_schema_model.specs.Declarations.{TypeExpr, EntityDeclaration, ActionDeclaration, Declarations, entity_name, action_uid, meant, parent_meant, references_in, extensions_in, extensions_in_fields}
use Rattle.cedar_schema_model.specs.Declarations as written
use Rattle.cedar_schema_model.specs.Resolved.{resolved, entity_meant}
use Rattle.cedar_schema_decl.specs.Conditional.{Conditional, conditional_in}
use Rattle.cedar_schema_decl.specs.Defined.{Defined, resolving}
use Rattle.cedar_schema_decl.specs.Forms.{TypeForm, bool_form, long_form, string_form, set_form, record_form, reference_form, extension_form, FieldForms, no_field_forms, field_form, EntityForm, standard_form, enumerated_form, external_form, ActionForm}
use Rattle.cedar_schema_decl.specs.Laws.{HasDeclared, namespace_parts, as_expr, as_exprs, resolved_in, is_refused, NamesMeanReferences, RefusedWhereUndeclared}
use Rattle.cedar_schema_decl.specs.Requalified.{and_then, requalified, requalified_fields, requalified_entity, each}
use Rattle.cedar_schema_fragments.proofs.Qualifying.{type_all}
use Rattle.cedar_schema_fragments.specs.Laws.{HasActions}
use Rattle.cedar_schema_fragments.specs.Qualified.{type_with, fields_with, entity_with, parent_with, action_with, full_name, full_uid}
use Rattle.cedar_schema_fragments.specs.Resolved.{entity_resolved, parent_resolved, action_resolved}
use Rattle.cedar_schema_fragments.specs.WrittenDeclarations.{parents_written, kind_written, entity_declaration, as_uid, action_declaration}
use Rattle.cedar_schema_resolver.specs.Laws.{SolvedTypesAreResolved, WritesCommons, RefusalsAreWritten, TellsWritten}
use Rattle.cedar_schema_resolver.specs.Meanings.{Setting, told}
use Rattle.cedar_schema_resolver.specs.Refusals.{TellsUntold}
use Rattle.cedar_schema_resolver.specs.Solved.{IsSolved}
use Rattle.cedar_schema_resolver.specs.declared.err.ResolveError.{ResolveError}
use Rattle.cedar_schema_assembly.specs.Told.{types_in}
use Rattle.cedar_schema_builder.specs.Writing.{CommonForms, InPlace, IsEntityWrittenAs, IsActionWrittenAs}
use Rattle.cedar_schema_builder.proofs.ResolvedComing.{came, ok_same, in_place, map_same}
use Rattle.cedar_schema_builder.proofs.Meaning.{entity_is, unreserved_is, parent_is}
use Rattle.cedar_schema_builder.proofs.Parts.{Resolves, EntityParts, entity_parts, ActionParts, action_parts}

-- The type is a written one of a namespace, with names resolved.
pub record TypeWritten (s : Defined) (ns : Namespace) (t : TypeExpr) (r : TypeForm Name) : Type 0 where
  pub space : Option Name
  pub form : TypeForm Name
  pub namespace : namespace_parts space ≡ ns
  pub definition : as_expr form ≡ t
  pub resolves : resolved_in s space form ≡ Ok r

-- its extension types are the same
module _ (s : Defined) (space : Option Name) where
  abbrev seen : TypeForm Name → List Name
  seen t = extensions_in (as_expr t)

  abbrev seen_fields : FieldForms Name → List Name
  seen_fields fs = extensions_in_fields (as_exprs fs)

  abbrev made_of : TypeForm Name → Result (TypeForm Name) Conditional
  made_of t = requalified (resolving s) (type_with (conditional_in space) t)

  abbrev fields_made_of : FieldForms Name → Result (FieldForms Name) Conditional
  fields_made_of fs = requalified_fields (resolving s) (fields_with (conditional_in space) fs)

  mutual
    same_seen : (t r : TypeForm Name) → made_of t ≡ Ok r → seen r ≡ seen t
    same_seen bool_form r h = ap seen (sym (ok_same bool_form r h))
    same_seen long_form r h = ap seen (sym (ok_same long_form r h))
    same_seen string_form r h = ap seen (sym (ok_same string_form r h))
    same_seen (set_form t) r h =
        let a = came (λ u. Ok (set_form u)) (made_of t) r h in
        ap seen (sym (ok_same (set_form a.value) r a.after)) ∙ same_seen t a.value a.first
    same_seen (record_form fs) r h =
        let a = came (λ gs. Ok (record_form gs)) (fields_made_of fs) r h in
        ap seen (sym (ok_same (record_form a.value) r a.after)) ∙ same_seen_fields fs a.value a.first
    same_seen (reference_form k n) r h =
        let a = came (λ b. Ok (reference_form k b)) (resolving s k (conditional_in space k n)) r h in
        ap seen (sym (ok_same (reference_form k a.value) r a.after))
    same_seen (extension_form n) r h = ap seen (sym (ok_same (extension_form n) r h))

    same_seen_fields : (fs gs : FieldForms Name) → fields_made_of fs ≡ Ok gs → seen_fields gs ≡ seen_fields fs
    same_seen_fields no_field_forms gs h = ap seen_fields (sym (ok_same no_field_forms gs h))
    same_seen_fields (field_form b t q fs) gs h =
        let a = came (λ u. and_then (λ hs. Ok (field_form b u q hs)) (fields_made_of fs)) (made_of t) gs h in
        let c = came (λ hs. Ok (field_form b a.value q hs)) (fields_made_of fs) gs a.after in
        ap seen_fields (sym (ok_same (field_form b a.value q c.value) gs c.after))
        ∙ (λ i. same_seen t a.value a.first i ++ same_seen_fields fs c.value c.first i)

pub extensions_same : (s : Defined) (ns : Namespace) (t : TypeExpr) (r : TypeForm Name) → TypeWritten s ns t r → extensions_in (as_expr r) ≡ extensions_in t
extensions_same s ns t r w = same_seen s w.space w.form r (sym (ap (and_then (requalified (resolving s))) (type_all w.space w.form)) ∙ w.resolves) ∙ ap extensions_in w.definition

-- what is referred to in it means something
pub means_something : RefusedWhereUndeclared → (s : Defined) (d : Declarations) → HasDeclared s d → (ns : Namespace) (t : TypeExpr) (r : TypeForm Name) → TypeWritten s ns t r → (q : Reference) → Contains (references_in ns t) q → meant d q ≡ None → ⊥
means_something law s d has ns t r w q h e =
    let none : false ≡ list_any (λ x. is_none (meant d x)) (references_in ns t) = ap is_refused (sym w.resolves) ∙ law s d has w.space w.form ∙ (λ i. list_any (λ x. is_none (meant d x)) (references_in (w.namespace i) (w.definition i))) in
    true≢false (sym (any_has (λ x. is_none (meant d x)) (references_in ns t) q h (ap is_none e)) ∙ sym none)

-- what is told of it
pub told_is : SolvedTypesAreResolved → (s : Setting) (d : Declarations) (cs : CommonForms) → WritesCommons s.defined d cs → IsSolved s cs → (ns : Namespace) (t : TypeExpr) (r : TypeForm Name) → TypeWritten s.defined ns t r → told s r ≡ resolved d ns t
told_is law s d cs writes solved ns t r w = law s d cs writes solved w.space w.form r w.resolves ∙ (λ i. resolved d (w.namespace i) (w.definition i))

pub untold_is : RefusalsAreWritten → (s : Setting) (d : Declarations) → HasDeclared s.defined d → (ns : Namespace) (t : TypeExpr) (r : TypeForm Name) → TypeWritten s.defined ns t r → (f : ResolveError) → TellsUntold s r f → TellsWritten s.extensions d t f
untold_is law s d has ns t r w f u = subst (λ e. TellsWritten s.extensions d e f) w.definition (law s d has w.space w.form r w.resolves f u)

-- the types that stand in an entity type
types_written : (f : EntityForm Name) → map as_expr (types_in f) ≡ written.types_in (kind_written f)
types_written (standard_form ps fs None) = refl
types_written (standard_form ps fs (Some t)) = refl
types_written (enumerated_form ids) = refl
types_written (external_form ps) = refl

types_placed : (s : Defined) (space : Option Name) (ts rs : List (TypeForm Name)) → InPlace (Resolves s space) ts rs → InPlace (TypeWritten s (namespace_parts space)) (map as_expr ts) rs
types_placed s space [] [] w = tt
types_placed s space [] (r ∷ rs) w = w
types_placed s space (t ∷ ts) [] w = w
types_placed s space (t ∷ ts) (r ∷ rs) w = (record { space = space; form = t; namespace = refl; definition = refl; resolves = w.0 }, types_placed s space ts rs w.1)

-- this is meant
abbrev pub MeansEntity : Declarations → Namespace → Name → Name → Type 0
MeansEntity d ns n m = entity_meant d ns n ≡ Some m

abbrev pub MeansAction : Declarations → Namespace → Uid → Name × Text → Type 0
MeansAction d ns u p = parent_meant d ns u ≡ Some (as_uid p)

pub record EntityStands (s : Defined) (d : Declarations) (e : EntityDeclaration) (p : Name × EntityForm Name) : Type 0 where
  pub name : p.0 ≡ entity_name e
  pub parents : InPlace (MeansEntity d e.namespace) e.parents (parents_written p.1)
  pub types : InPlace (TypeWritten s e.namespace) (written.types_in e.kind) (types_in p.1)

pub record ActionStands (s : Defined) (d : Declarations) (a : ActionDeclaration) (p : Uid × ActionForm Name (Name × Text)) : Type 0 where
  pub uid : p.0 ≡ action_uid a
  pub principals : InPlace (MeansEntity d a.namespace) a.principals p.1.principals
  pub resources : InPlace (MeansEntity d a.namespace) a.resources p.1.resources
  pub parents : InPlace (MeansAction d a.namespace) a.parents p.1.parents
  pub context : TypeWritten s a.namespace a.context p.1.context

module _ (names : NamesMeanReferences) (s : Defined) (d : Declarations) (has : HasDeclared s d) where
  module _ (space : Option Name) where
    abbrev named : Name → Conditional
    named = conditional_in space to_entity

    parents_mean : (ns ms : List Name) → each (resolving s to_entity) (map named ns) ≡ Ok ms → InPlace (MeansEntity d (namespace_parts space)) ns ms
    parents_mean ns ms h = subst (λ l. InPlace (MeansEntity d (namespace_parts space)) l ms) (map_same ns) (in_place (resolving s to_entity) named (λ n. n) (MeansEntity d (namespace_parts space)) (entity_is names s d has space) ns ms h)

    applied_mean : (ns ms : List Name) → each (entity_resolved s) (map named ns) ≡ Ok ms → InPlace (MeansEntity d (namespace_parts space)) ns ms
    applied_mean ns ms h = subst (λ l. InPlace (MeansEntity d (namespace_parts space)) l ms) (map_same ns) (in_place (entity_resolved s) named (λ n. n) (MeansEntity d (namespace_parts space)) (unreserved_is names s d has space) ns ms h)

  pub entity_stands : (e : EntityDeclaration) (p : Name × EntityForm Name) → IsEntityWrittenAs s e p → EntityStands s d e p
  entity_stands e p w =
      let k = came (λ y. Ok (full_name w.space w.form.0, y)) (requalified_entity (resolving s) (entity_with (conditional_in w.space) w.form.1)) p w.resolves in
      let parts : EntityParts s w.space w.form.1 k.value = entity_parts s w.space w.form.1 k.value k.first in
      subst (λ b. EntityStands s d b p) w.declares (subst (EntityStands s d (entity_declaration w.space w.form)) {x = (full_name w.space w.form.0, k.value)} (ok_same (full_name w.space w.form.0, k.value) p k.after)
      (record {
        name = refl;
        parents = parents_mean w.space (parents_written w.form.1) (parents_written k.value) parts.parents;
        types = subst (λ ts. InPlace (TypeWritten s (namespace_parts w.space)) ts (types_in k.value)) (types_written w.form.1) (types_placed s w.space (types_in w.form.1) (types_in k.value) parts.types);
      }))

  pub action_stands : HasActions s d → (a : ActionDeclaration) (p : Uid × ActionForm Name (Name × Text)) → IsActionWrittenAs s a p → ActionStands s d a p
  action_stands acts a p w =
      let k = came (λ y. Ok (full_uid w.space w.form.0, y)) (action_resolved s (action_with (conditional_in w.space) w.form.1)) p w.resolves in
      let parts : ActionParts s w.space w.form.1 k.value = action_parts s w.space w.form.1 k.value k.first in
      subst (λ b. ActionStands s d b p) w.declares (subst (ActionStands s d (action_declaration w.space w.form)) {x = (full_uid w.space w.form.0, k.value)} (ok_same (full_uid w.space w.form.0, k.value) p k.after)
      (record {
        uid = refl;
        principals = applied_mean w.space w.form.1.principals k.value.principals parts.principals;
        resources = applied_mean w.space w.form.1.resources k.value.resources parts.resources;
        parents = in_place (parent_resolved s) (parent_with (conditional_in w.space)) as_uid (MeansAction d (namespace_parts w.space)) (parent_is s d acts w.space) w.form.1.parents k.value.parents parts.parents;
        context = record { space = w.space; form = w.form.1.context; namespace = refl; definition = refl; resolves = parts.context };
      }))
