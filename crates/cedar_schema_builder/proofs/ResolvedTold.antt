-- What resolved entity types and actions tell is the schema of the declarations.
use Rattle.std.proofs.Common.{◌≡◌, List, map, Option, Some, None, option_map, Result, Ok, sym, ap, ◌∙◌}
use Rattle.std.specs.List.{filter_map}
use Rattle.cedar_expr_model.specs.Name.{Text, Name}
use Rattle.cedar_expr_model.specs.Uid.{Uid}
use Rattle.cedar_schema_model.specs.Schema.{standard}
use Rattle.cedar_schema_model.specs.Reference.{to_entity}
use Rattle.cedar_schema_model.specs.Declarations.{EntityDeclaration, ActionDeclaration, Declarations}
use Rattle.cedar_schema_model.specs.Resolved.{common_of, resolved, resolved_fields_by, entity_meant, resolved_kind, resolved_entity, attributes_of_record, resolved_action, schema_of}
use Rattle.cedar_schema_model.specs.Declarations.{parent_meant}
use Rattle.cedar_schema_decl.specs.Conditional.{Conditional, conditional_in}
use Rattle.cedar_schema_decl.specs.Defined.{Defined, resolving}
use Rattle.cedar_schema_decl.specs.Forms.{TypeForm, record_form, EntityForm, standard_form, enumerated_form, external_form, ActionForm}
use Rattle.cedar_schema_decl.specs.Laws.{HasDeclared, namespace_parts, as_expr, as_exprs, NamesMeanReferences}
use Rattle.cedar_schema_decl.specs.Requalified.{requalified, requalified_entity, where_there, each}
use Rattle.cedar_schema_fragments.specs.Laws.{HasActions}
use Rattle.cedar_schema_fragments.specs.Qualified.{type_with, entity_with, parent_with, action_with, full_name, full_uid}
use Rattle.cedar_schema_fragments.specs.Resolved.{entity_resolved, parent_resolved, action_resolved}
use Rattle.cedar_schema_fragments.specs.WrittenDeclarations.{parents_written, kind_written, as_uid}
use Rattle.cedar_schema_resolver.specs.Laws.{SolvedTypesAreResolved}
use Rattle.cedar_schema_resolver.specs.Meanings.{Setting, told, told_fields}
use Rattle.cedar_schema_assembly.specs.Told.{kind_told, entity_told, action_told, schema_told}
use Rattle.cedar_schema_builder.specs.ResolvedLaws.{AreTold}
use Rattle.cedar_schema_builder.specs.Writing.{CommonForms, EntityForms, ActionForms, IsEntityWrittenAs, IsActionWrittenAs}
use Rattle.cedar_schema_builder.proofs.ResolvedComing.{came, ok_same, kept_each, map_same, seen_same}
use Rattle.cedar_schema_builder.proofs.Making.{resolved_at}
use Rattle.cedar_schema_builder.proofs.Meaning.{entity_is, unreserved_is, parent_is}
use Rattle.cedar_schema_builder.proofs.Parts.{Resolves, StandardParts, standard_parts, ExternalParts, external_parts, EntityParts, entity_parts, ActionParts, action_parts}

-- names and parents
module _ (names : NamesMeanReferences) (s : Defined) (d : Declarations) (has : HasDeclared s d) (space : Option Name) where
  names_kept : {R : Type 0} (f : Conditional → Result Name R) → ((n m : Name) → f (conditional_in space to_entity n) ≡ Ok m → entity_meant d (namespace_parts space) n ≡ Some m) → (ns ms : List Name) → each f (map (conditional_in space to_entity) ns) ≡ Ok ms → ms ≡ filter_map (entity_meant d (namespace_parts space)) ns
  names_kept f one ns ms h = sym (map_same ms) ∙ kept_each f (conditional_in space to_entity) (λ n. n) (entity_meant d (namespace_parts space)) (λ n. n) one ns ms h ∙ ap (filter_map (entity_meant d (namespace_parts space))) (map_same ns)

  pub parents_kept : (ns ms : List Name) → each (resolving s to_entity) (map (conditional_in space to_entity) ns) ≡ Ok ms → ms ≡ filter_map (entity_meant d (namespace_parts space)) ns
  parents_kept ns ms h = names_kept (resolving s to_entity) (entity_is names s d has space) ns ms h

  pub applied_kept : (ns ms : List Name) → each (entity_resolved s) (map (conditional_in space to_entity) ns) ≡ Ok ms → ms ≡ filter_map (entity_meant d (namespace_parts space)) ns
  applied_kept ns ms h = names_kept (entity_resolved s) (unreserved_is names s d has space) ns ms h

pub action_parents_kept : (s : Defined) (d : Declarations) → HasActions s d → (space : Option Name) (ps qs : List (Name × Text)) → each (parent_resolved s) (map (parent_with (conditional_in space)) ps) ≡ Ok qs → map as_uid qs ≡ filter_map (parent_meant d (namespace_parts space)) (map as_uid ps)
action_parents_kept s d has space ps qs h = kept_each (parent_resolved s) (parent_with (conditional_in space)) as_uid (parent_meant d (namespace_parts space)) as_uid (parent_is s d has space) ps qs h

module _ (names : NamesMeanReferences) (types : SolvedTypesAreResolved) (s : Setting) (d : Declarations) (cs : CommonForms) (es : EntityForms) (as_ : ActionForms) (told_by : AreTold s d cs es as_) where
  has_types : HasDeclared s.defined d
  has_types = told_by.writes.commons.declared

  type_is : (space : Option Name) (t r : TypeForm Name) → Resolves s.defined space t r → told s r ≡ resolved d (namespace_parts space) (as_expr t)
  type_is space t r h = types s d cs told_by.writes.commons told_by.solved space t r h

  -- kinds
  tags_are : (space : Option Name) (t u : Option (TypeForm Name)) → where_there (requalified (resolving s.defined)) (option_map (type_with (conditional_in space)) t) ≡ Ok u → option_map (told s) u ≡ option_map (resolved d (namespace_parts space)) (option_map as_expr t)
  tags_are space None u h = ap (option_map (told s)) (sym (ok_same None u h))
  tags_are space (Some t) u h =
      let a = came (λ v. Ok (Some v)) (requalified (resolving s.defined) (type_with (conditional_in space) t)) u h in
      ap (option_map (told s)) (sym (ok_same (Some a.value) u a.after)) ∙ ap Some (type_is space t a.value (resolved_at s.defined space t a.value a.first))

  kind_is : (space : Option Name) (f y : EntityForm Name) → requalified_entity (resolving s.defined) (entity_with (conditional_in space) f) ≡ Ok y → kind_told s y ≡ resolved_kind d (namespace_parts space) (kind_written f)
  kind_is space (standard_form ps fs t) y h =
      let p : StandardParts s.defined space ps fs t y = standard_parts s.defined space ps fs t y h in
      let fields : told_fields s p.fields ≡ resolved_fields_by (common_of d) d (namespace_parts space) (as_exprs fs) = ap attributes_of_record (type_is space (record_form fs) (record_form p.fields) p.fields_come) in
      ap (kind_told s) (sym p.is) ∙ (λ i. standard (fields i) (tags_are space t p.tags p.tags_come i))
  kind_is space (enumerated_form ids) y h = ap (kind_told s) (sym (ok_same (enumerated_form ids) y h))
  kind_is space (external_form ps) y h =
      let p : ExternalParts s.defined space ps y = external_parts s.defined space ps y h in
      ap (kind_told s) (sym p.is)

  -- entity types
  entity_is_told : (e : EntityDeclaration) (p : Name × EntityForm Name) → IsEntityWrittenAs s.defined e p → entity_told s p ≡ resolved_entity d e
  entity_is_told e p w =
      let k = came (λ y. Ok (full_name w.space w.form.0, y)) (requalified_entity (resolving s.defined) (entity_with (conditional_in w.space) w.form.1)) p w.resolves in
      let parts : EntityParts s.defined w.space w.form.1 k.value = entity_parts s.defined w.space w.form.1 k.value k.first in
      ap (entity_told s) (sym (ok_same (full_name w.space w.form.0, k.value) p k.after))
      ∙ (λ i. record {
        name = full_name w.space w.form.0;
        parents = parents_kept names s.defined d has_types w.space (parents_written w.form.1) (parents_written k.value) parts.parents i;
        kind = kind_is w.space w.form.1 k.value k.first i;
      })
      ∙ ap (resolved_entity d) w.declares

  -- actions
  action_is_told : (a : ActionDeclaration) (p : Uid × ActionForm Name (Name × Text)) → IsActionWrittenAs s.defined a p → action_told s p ≡ resolved_action d a
  action_is_told a p w =
      let k = came (λ y. Ok (full_uid w.space w.form.0, y)) (action_resolved s.defined (action_with (conditional_in w.space) w.form.1)) p w.resolves in
      let parts : ActionParts s.defined w.space w.form.1 k.value = action_parts s.defined w.space w.form.1 k.value k.first in
      ap (action_told s) (sym (ok_same (full_uid w.space w.form.0, k.value) p k.after))
      ∙ (λ i. record {
        uid = full_uid w.space w.form.0;
        parents = action_parents_kept s.defined d told_by.writes.declared w.space w.form.1.parents k.value.parents parts.parents i;
        principals = applied_kept names s.defined d has_types w.space w.form.1.principals k.value.principals parts.principals i;
        resources = applied_kept names s.defined d has_types w.space w.form.1.resources k.value.resources parts.resources i;
        context = attributes_of_record (type_is w.space w.form.1.context k.value.context parts.context i);
        is_external = parts.is_external i;
      })
      ∙ ap (resolved_action d) w.declares

  pub schema_is : schema_told s es as_ ≡ schema_of d
  schema_is = λ i. record {
    types = seen_same (IsEntityWrittenAs s.defined) (resolved_entity d) (entity_told s) entity_is_told d.entities es told_by.writes.entities i;
    actions = seen_same (IsActionWrittenAs s.defined) (resolved_action d) (action_told s) action_is_told d.actions as_ told_by.writes.actions i;
  }
