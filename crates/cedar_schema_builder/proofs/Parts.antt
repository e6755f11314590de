-- The parts of an entity type and of an action whose names are resolved.
use Rattle.std.proofs.Common.{◌≡◌, List, [], ◌∷◌, map, Option, Some, None, option_map, Ok, refl, ap, subst}
use Rattle.std.specs.Option.{option_to_list}
use Rattle.cedar_expr_model.specs.Name.{Text, Name}
use Rattle.cedar_schema_model.specs.Reference.{to_entity}
use Rattle.cedar_schema_decl.specs.Conditional.{Conditional, conditional_in}
use Rattle.cedar_schema_decl.specs.Defined.{Defined, resolving}
use Rattle.cedar_schema_decl.specs.Forms.{TypeForm, record_form, FieldForms, EntityForm, standard_form, enumerated_form, external_form, ActionForm}
use Rattle.cedar_schema_decl.specs.Laws.{resolved_in}
use Rattle.cedar_schema_decl.specs.Requalified.{and_then, requalified, requalified_fields, requalified_entity, where_there, each}
use Rattle.cedar_schema_fragments.specs.Qualified.{type_with, fields_with, entity_with, parent_with, action_with}
use Rattle.cedar_schema_fragments.specs.Resolved.{entity_resolved, applied_resolved, parent_resolved, context_resolved, action_resolved}
use Rattle.cedar_schema_fragments.specs.WrittenDeclarations.{parents_written}
use Rattle.cedar_schema_assembly.specs.Told.{types_in}
use Rattle.cedar_schema_builder.specs.Writing.{InPlace}
use Rattle.cedar_schema_builder.proofs.ResolvedComing.{came, ok_same, of_types_came}
use Rattle.cedar_schema_builder.proofs.Making.{resolved_at}

module _ (s : Defined) (space : Option Name) where
  abbrev named : Name → Conditional
  named = conditional_in space to_entity

  -- a type, and the same with its names resolved
  abbrev pub Resolves : TypeForm Name → TypeForm Name → Type 0
  Resolves t r = resolved_in s space t ≡ Ok r

  -- a standard entity type
  pub record StandardParts (ps : List Name) (fs : FieldForms Name) (t : Option (TypeForm Name)) (y : EntityForm Name) : Type 0 where
    pub parents : List Name
    pub fields : FieldForms Name
    pub tags : Option (TypeForm Name)
    pub is : standard_form parents fields tags ≡ y
    pub parents_come : each (resolving s to_entity) (map named ps) ≡ Ok parents
    pub fields_come : Resolves (record_form fs) (record_form fields)
    pub tags_come : where_there (requalified (resolving s)) (option_map (type_with (conditional_in space)) t) ≡ Ok tags

  pub standard_parts : (ps : List Name) (fs : FieldForms Name) (t : Option (TypeForm Name)) (y : EntityForm Name) → requalified_entity (resolving s) (entity_with (conditional_in space) (standard_form ps fs t)) ≡ Ok y → StandardParts ps fs t y
  standard_parts ps fs t y h =
      let tags = where_there (requalified (resolving s)) (option_map (type_with (conditional_in space)) t) in
      let fields = requalified_fields (resolving s) (fields_with (conditional_in space) fs) in
      let a = came (λ qs. and_then (λ gs. and_then (λ u. Ok (standard_form qs gs u)) tags) fields) (each (resolving s to_entity) (map named ps)) y h in
      let b = came (λ gs. and_then (λ u. Ok (standard_form a.value gs u)) tags) fields y a.after in
      let c = came (λ u. Ok (standard_form a.value b.value u)) tags y b.after in
      record {
        parents = a.value;
        fields = b.value;
        tags = c.value;
        is = ok_same (standard_form a.value b.value c.value) y c.after;
        parents_come = a.first;
        fields_come = resolved_at s space (record_form fs) (record_form b.value) (ap (and_then (λ gs. Ok (record_form gs))) b.first);
        tags_come = c.first;
      }

  -- one that is declared elsewhere
  pub record ExternalParts (ps : List Name) (y : EntityForm Name) : Type 0 where
    pub parents : List Name
    pub is : external_form parents ≡ y
    pub parents_come : each (resolving s to_entity) (map named ps) ≡ Ok parents

  pub external_parts : (ps : List Name) (y : EntityForm Name) → requalified_entity (resolving s) (entity_with (conditional_in space) (external_form ps)) ≡ Ok y → ExternalParts ps y
  external_parts ps y h =
      let a = came (λ qs. Ok (external_form qs)) (each (resolving s to_entity) (map named ps)) y h in
      record { parents = a.value; is = ok_same (external_form a.value) y a.after; parents_come = a.first }

  -- the type of tags
  pub tags_in_place : (t u : Option (TypeForm Name)) → where_there (requalified (resolving s)) (option_map (type_with (conditional_in space)) t) ≡ Ok u → InPlace Resolves (option_to_list t) (option_to_list u)
  tags_in_place None u h = subst (λ o. InPlace Resolves [] (option_to_list o)) (ok_same None u h) tt
  tags_in_place (Some t) u h =
      let a = came (λ v. Ok (Some v)) (requalified (resolving s) (type_with (conditional_in space) t)) u h in
      subst (λ o. InPlace Resolves (t ∷ []) (option_to_list o)) (ok_same (Some a.value) u a.after) (resolved_at s space t a.value a.first, tt)

  -- of any kind: the parents, and the types that stand in it
  pub record EntityParts (f y : EntityForm Name) : Type 0 where
    pub parents : each (resolving s to_entity) (map named (parents_written f)) ≡ Ok (parents_written y)
    pub types : InPlace Resolves (types_in f) (types_in y)

  pub entity_parts : (f y : EntityForm Name) → requalified_entity (resolving s) (entity_with (conditional_in space) f) ≡ Ok y → EntityParts f y
  entity_parts (standard_form ps fs t) y h =
      let p : StandardParts ps fs t y = standard_parts ps fs t y h in
      subst (EntityParts (standard_form ps fs t)) p.is (record { parents = p.parents_come; types = (p.fields_come, tags_in_place t p.tags p.tags_come) })
  entity_parts (enumerated_form ids) y h = subst (EntityParts (enumerated_form ids)) (ok_same (enumerated_form ids) y h) (record { parents = refl; types = tt })
  entity_parts (external_form ps) y h =
      let p : ExternalParts ps y = external_parts ps y h in
      subst (EntityParts (external_form ps)) p.is (record { parents = p.parents_come; types = tt })

  -- an action
  pub record ActionParts (a b : ActionForm Name (Name × Text)) : Type 0 where
    pub principals : each (entity_resolved s) (map named a.principals) ≡ Ok b.principals
    pub resources : each (entity_resolved s) (map named a.resources) ≡ Ok b.resources
    pub context : Resolves a.context b.context
    pub parents : each (parent_resolved s) (map (parent_with (conditional_in space)) a.parents) ≡ Ok b.parents
    pub is_external : b.is_external ≡ a.is_external

  -- what it applies to
  record AppliedParts (a : ActionForm Name (Name × Text)) (v : List Name × List Name) : Type 0 where
    principals : each (entity_resolved s) (map named a.principals) ≡ Ok v.0
    resources : each (entity_resolved s) (map named a.resources) ≡ Ok v.1

  applied_parts : (a : ActionForm Name (Name × Text)) (v : List Name × List Name) → applied_resolved s (map named a.principals, map named a.resources) ≡ Ok v → AppliedParts a v
  applied_parts a v h =
      let ps = came (λ qs. and_then (λ rs. Ok (qs, rs)) (each (entity_resolved s) (map named a.resources))) (each (entity_resolved s) (map named a.principals)) v h in
      let rs = came (λ qs. Ok (ps.value, qs)) (each (entity_resolved s) (map named a.resources)) v ps.after in
      subst (AppliedParts a) {x = (ps.value, rs.value)} (ok_same (ps.value, rs.value) v rs.after) (record { principals = ps.first; resources = rs.first })

  abbrev made_of : ActionForm Name (Name × Text) → List Name × List Name → TypeForm Name → List (Name × Text) → ActionForm Name (Name × Text)
  made_of a applied t us = record { parents = us; principals = applied.0; resources = applied.1; context = t; is_external = a.is_external }

  pub action_parts : (a b : ActionForm Name (Name × Text)) → action_resolved s (action_with (conditional_in space) a) ≡ Ok b → ActionParts a b
  action_parts a b h =
      let c = action_with (conditional_in space) a in
      let parents = each (parent_resolved s) c.parents in
      let context = context_resolved s c.context in
      let k = came (λ applied. and_then (λ t. and_then (λ us. Ok (made_of a applied t us)) parents) context) (applied_resolved s (c.principals, c.resources)) b h in
      let m = came (λ t. and_then (λ us. Ok (made_of a k.value t us)) parents) context b k.after in
      let n = came (λ us. Ok (made_of a k.value m.value us)) parents b m.after in
      let applied : AppliedParts a k.value = applied_parts a k.value k.first in
      subst (ActionParts a) {x = made_of a k.value m.value n.value} (ok_same (made_of a k.value m.value n.value) b n.after)
      (record {
        principals = applied.principals;
        resources = applied.resources;
        context = resolved_at s space a.context m.value (of_types_came (requalified (resolving s) c.context) m.value m.first);
        parents = n.first;
        is_external = refl;
      })
